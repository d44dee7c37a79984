-- From the final head and the body to the answer of the whole input.
-- Used by `read_response`.
use Rattle.std.proofs.Common.{◌≡◌, ◌≤◌, ◌+◌, ◌-◌, ℕ, List, [], ◌++◌, length, take, drop, Option, Some, None, Ok, Err, refl, sym, ap, subst, ◌∙◌, arith, append_assoc, inr}
use Rattle.std.specs.Prelude.{IfSome, IsTrue, option_map}
use Rattle.std.specs.Io.KnownBytes.{Consumes}
use Rattle.std.specs.String.{string_bytes}
use Rattle.std.proofs.lemmas.List.{drop-append-le}
use Rattle.std.proofs.Math.Seq.{take-append-add}
use Rattle.http_wire.specs.Bodies.{InBody}
use Rattle.http_wire.specs.Finding.{IsFound}
use Rattle.http_wire.specs.Heads.{HasFinal}
use Rattle.http_wire.specs.Persistence.{EndsAs, GoesOn, MayGoOn}
use Rattle.http_wire.specs.Reading.{EndsWith, Grows, IsWhole, HasNoBody, ReadsBody}
use Rattle.http_wire.specs.Response.{Response, Tells, Cause, reply_of}
use Rattle.http_wire.specs.declared.body.Body.{Body}
use Rattle.http_wire.specs.declared.ending.ConnectionEnding.{ConnectionEnding}
use Rattle.http_wire.specs.declared.ending.ConnectionEnding.TheVariants.{Close, KeepAlive}
use Rattle.http_wire.specs.declared.fault.WireFault.{WireFault}
use Rattle.http_wire.specs.declared.fault.WireFault.TheVariants.{EarlyEnd, BadHead, HeadTooLong, TooManyInterim, BadLength, BadChunk, Coding, Device, NoMemory, TooMuch}
use Rattle.http_wire.specs.declared.framing.Framing.{Framing}
use Rattle.http_wire.specs.declared.head.FinalHead.{FinalHead}
use Rattle.http_wire.specs.Limits.{raw_limit}
use Rattle.http_wire.specs.declared.response.HttpReply.{HttpReply}
use Rattle.http_wire.proofs.HeadFacts.{final_append}
use Rattle.http_wire.proofs.SourceReads.{whole_before}

all_left : (left : Option (List ℕ)) (input : List ℕ) → IsWhole left [] input → IfSome left (λ octets. octets ≡ input)
all_left None input whole = tt
all_left (Some octets) input whole = whole.known ∙ sym whole.parts

-- the source had what was read, and then what it has left now
whole_input : (left left' : Option (List ℕ)) (seen input : List ℕ) → Grows left left' [] seen → IsWhole left' seen input
    → IfSome left (λ octets. octets ≡ input)
whole_input left left' seen input grows whole = all_left left input (whole_before left left' [] seen input grows whole)

final_of : (seen input more : List ℕ) (found : FinalHead) (is : IsFound seen found) → input ≡ seen ++ more
    → HasFinal input is.head (drop found.end input)
final_of seen input more found is parts =
    let place : drop found.end (seen ++ more) ≡ drop found.end seen ++ more = drop-append-le found.end seen more is.within in
    subst (λ (t : List ℕ). HasFinal t is.head (drop found.end t)) (sym parts)
    (subst (HasFinal (seen ++ more) is.head) (sym place) (final_append seen is.head (drop found.end seen) more is.final))

pub reply_told : (left left' : Option (List ℕ)) (seen : List ℕ) (found : FinalHead) (limit : ℕ) (body : Body) (reply : HttpReply)
    → Grows left left' [] seen → IsFound seen found → ReadsBody found.framing limit found.end left' seen (Ok body)
    → reply_of reply ≡ record { status = found.status; location = option_map string_bytes found.location; max_age = found.max_age; head = found.octets.items; body = body.octets.items; cut = body.cut }
    → Tells left limit (Ok reply)
reply_told left left' seen found limit body reply grows is reads same = record {
  input = reads.input;
  whole = whole_input left left' seen reads.input grows reads.whole;
  answers = subst (Response reads.input limit) (sym same) (record {
    rest = reads.tells.rest;
    gives = record {
      head = is.head;
      text = drop found.end reads.input;
      final = final_of seen reads.input reads.whole.more found is reads.whole.parts;
      framing = found.framing;
      framed = is.framed;
      uncoded = is.uncoded;
      gives = reads.tells.gives;
      status = is.status;
      location = is.location;
      max_age = is.max_age;
      octets = is.octets;
    };
    within = reads.tells.within;
  });
}

consumes_both : (left mid left' : Option (List ℕ)) (first second : List ℕ) → Consumes left mid first → Consumes mid left' second → Consumes left left' (first ++ second)
consumes_both None mid left' first second one two = tt
consumes_both (Some xs) None left' first second one two = absurd one
consumes_both (Some xs) (Some ys) None first second one two = absurd two
consumes_both (Some xs) (Some ys) (Some zs) first second one two = one ∙ ap (λ t. first ++ t) two ∙ sym (append_assoc first second zs)

pub goes_on : (left mid left' : Option (List ℕ)) (seen : List ℕ) (found : FinalHead) (limit : ℕ) (body : Body) (reply : HttpReply)
    → Grows left mid [] seen → IsFound seen found → EndsWith found.framing limit found.end mid left' seen body → MayGoOn found body
    → reply_of reply ≡ record { status = found.status; location = option_map string_bytes found.location; max_age = found.max_age; head = found.octets.items; body = body.octets.items; cut = body.cut }
    → GoesOn left left' limit (reply_of reply)
goes_on left mid left' seen found limit body reply grows is ends may same = subst (GoesOn left left' limit) (sym same) (record {
  octets = ends.seen;
  taken = subst (Consumes left left') (ap (λ t. t ++ ends.grows.piece) (sym grows.grown) ∙ sym ends.grows.grown)
      (consumes_both left mid left' grows.piece ends.grows.piece grows.read ends.grows.read);
  gives = record {
    head = is.head;
    text = drop found.end ends.seen;
    final = final_of seen ends.seen ends.grows.piece found is ends.grows.grown;
    framing = found.framing;
    framed = is.framed;
    uncoded = is.uncoded;
    gives = ends.gives;
    status = is.status;
    location = is.location;
    max_age = is.max_age;
    octets = is.octets;
  };
  delimited = may.delimited;
  whole = may.whole;
  persists = sym is.persists ∙ may.persists;
})

pub ends_as : (left mid left' : Option (List ℕ)) (seen : List ℕ) (found : FinalHead) (limit : ℕ) (body : Body) (reply : HttpReply) (ending : ConnectionEnding)
    → Grows left mid [] seen → IsFound seen found → (IsTrue body.alone → EndsWith found.framing limit found.end mid left' seen body)
    → (ending ≡ KeepAlive → MayGoOn found body)
    → reply_of reply ≡ record { status = found.status; location = option_map string_bytes found.location; max_age = found.max_age; head = found.octets.items; body = body.octets.items; cut = body.cut }
    → EndsAs left left' limit (Ok reply) ending
ends_as left mid left' seen found limit body reply Close grows is ends may same = tt
ends_as left mid left' seen found limit body reply KeepAlive grows is ends may same =
    goes_on left mid left' seen found limit body reply grows is (ends (may refl).alone) (may refl) same

in_body : {Fact : Framing → List ℕ → Type 0} (seen input more : List ℕ) (found : FinalHead) → IsFound seen found → input ≡ seen ++ more
    → Fact found.framing (drop found.end input) → InBody Fact input
in_body seen input more found is parts fact = record {
  head = is.head;
  text = drop found.end input;
  final = final_of seen input more found is parts;
  framing = found.framing;
  framed = is.framed;
  fact = fact;
}

pub fault_told : (left left' : Option (List ℕ)) (seen : List ℕ) (found : FinalHead) (limit : ℕ) (fault : WireFault)
    → Grows left left' [] seen → IsFound seen found → length seen ≤ raw_limit limit
    → ReadsBody found.framing limit found.end left' seen (Err fault) → Tells left limit (Err fault)
fault_told left left' seen found limit fault grows is few reads = record {
  input = reads.input;
  whole = whole_input left left' seen reads.input grows reads.whole;
  answers = by_fault fault reads.tells;
} where
  input : List ℕ
  input = reads.input

  more : List ℕ
  more = reads.whole.more

  most : ℕ
  most = raw_limit limit

  sum : most ≡ length seen + (most - length seen)
  sum = omega (arith, few)

  prefix : take most input ≡ seen ++ take (most - length seen) more
  prefix =
      ap (take most) reads.whole.parts
      ∙ ap (λ n. take n (seen ++ more)) sum
      ∙ take-append-add seen more (most - length seen)

  by_fault : (fault : WireFault) → HasNoBody fault found.framing limit found.end input → Cause fault input limit
  by_fault EarlyEnd ends = inr (in_body seen input more found is reads.whole.parts ends)
  by_fault BadChunk bad = in_body seen input more found is reads.whole.parts bad
  by_fault TooMuch on = record {
    more = on.more;
    prefix = in_body seen (take most input) (take (most - length seen) more) found is prefix on.prefix;
  }
  by_fault Device _ = tt
  by_fault NoMemory _ = tt
  by_fault BadHead none = absurd none
  by_fault HeadTooLong none = absurd none
  by_fault TooManyInterim none = absurd none
  by_fault BadLength none = absurd none
  by_fault Coding none = absurd none
