-- An input without an octet ends early, and a result over known octets is one over unknown octets.
use Rattle.std.proofs.Common.{◌≡◌, ℕ, ◌<◌, List, [], ◌∷◌, ◌++◌, length, length-append, append-nil, rules, tests, Bool, true, false, Option, None, Result, Err, refl, ap, sym, subst, arith, inl, inr}
use Rattle.httparse.specs.Grammar.{ResponseHead, ReadsResponse, HasNoResponse, print_response, print_blank, print_version, print_reason, print_end, print_section, crlf}
use Rattle.http_wire.specs.Heads.{EndsInHead}
use Rattle.http_wire.specs.Response.{Tells}
use Rattle.http_wire.specs.declared.fault.WireFault.{WireFault}
use Rattle.http_wire.specs.declared.fault.WireFault.TheVariants.{EarlyEnd}
use Rattle.http_wire.specs.declared.response.HttpReply.{HttpReply}
use Rattle.http_wire.specs.Persistence.{EndsAs}
use Rattle.http_wire.specs.declared.ending.ConnectionEnding.{ConnectionEnding}
use Rattle.http_wire.specs.declared.ending.ConnectionEnding.TheVariants.{Close}
use Rattle.http_client.specs.Cut.{unless_ended}
use Rattle.http_client.specs.Exchange.{Exchanges}
use Rattle.http_client.proofs.Exchanges.{device_tells}

before : (xs ys : List ℕ) → 0 < length xs → 0 < length (xs ++ ys)
before xs ys some = omega (arith, some, length-append xs ys)

behind : (xs ys : List ℕ) → 0 < length ys → 0 < length (xs ++ ys)
behind xs ys some = omega (arith, some, length-append xs ys)

-- each head has a space
printed : (h : ResponseHead) → 0 < length (print_response h)
unfolding print_response
printed h =
    let start : List ℕ = print_blank h.blank ++ print_version h.minor in
    let status : List ℕ = start ++ (32 ∷ h.digits) in
    let line : List ℕ = status ++ print_reason h.reason ++ print_end h.line_end in
    before line (print_section h.fields h.last)
    (before (status ++ print_reason h.reason) (print_end h.line_end)
    (before status (print_reason h.reason) (behind start (32 ∷ h.digits) (omega arith))))

nothing_read : HasNoResponse []
nothing_read h rest read =
    let some = before (print_response h) rest (printed h) in
    let none : 0 ≡ length (print_response h ++ rest) = ap length read.1 in
    absurd (omega (arith, some, none))

-- HTTP/1.1 200, with no fields
abbrev first : ResponseHead
first = record {
  blank = [];
  minor = 1;
  digits = 50 ∷ 48 ∷ 48 ∷ [];
  reason = None;
  line_end = crlf;
  fields = [];
  last = crlf;
}

first_read : ReadsResponse (print_response first) first []
first_read = (
  record {
    minor = omega arith;
    digits = (refl, search (rules, tests));
    reason = search (rules, tests);
    fields = λ k d within. absurd (omega (arith, within));
  },
  sym (append-nil (print_response first)),
)

ends_in_head : EndsInHead []
ends_in_head = record {
  none = nothing_read;
  unfinished = (print_response first, first, first_read);
  octets = omega arith;
  lines = omega arith;
}

ended_tells : (limit : ℕ) → Tells None limit (Err EarlyEnd)
ended_tells limit = record {
  input = [];
  whole = tt;
  answers = inl (record { heads = []; rest = []; few = omega arith; passed = record { are = λ k d within. absurd (omega (arith, within)); parts = refl }; fact = ends_in_head });
}

pub given_tells :
    (request : List ℕ) (limit : ℕ) (written written' left : Option (List ℕ)) (writes writes' reads reads' : ℕ)
    (given : Result HttpReply WireFault)
    → Exchanges request limit written written' writes writes' left reads reads' given → Tells None limit given
given_tells request limit written written' left writes writes' reads reads' given (inl unsent) =
    device_tells limit given unsent.fault
given_tells request limit written written' left writes writes' reads reads' given (inr answered) =
    record { input = answered.tells.input; whole = tt; answers = answered.tells.answers }

unless_ended_tells :
    (limit : ℕ) (ended : Bool) (given : Result HttpReply WireFault)
    → Tells None limit given → Tells None limit (unless_ended ended given)
unless_ended_tells limit true given tells = ended_tells limit
unless_ended_tells limit false given tells = tells

pub through_tells :
    (request : List ℕ) (limit : ℕ) (written written' left : Option (List ℕ)) (writes writes' reads reads' : ℕ)
    (ended : Bool) (given result : Result HttpReply WireFault)
    → Exchanges request limit written written' writes writes' left reads reads' given → result ≡ unless_ended ended given
    → Tells None limit result
through_tells request limit written written' left writes writes' reads reads' ended given result exchanged same =
    let P : Result HttpReply WireFault → Type 0 = λ r. Tells None limit r in
    subst P (sym same) (unless_ended_tells limit ended given (given_tells request limit written written' left writes writes' reads reads' given exchanged))

-- ---- what becomes of the connection

unless_ended_ends :
    (left left' : Option (List ℕ)) (limit : ℕ) (ended : Bool) (given : Result HttpReply WireFault) (told ending : ConnectionEnding)
    → (ended ≡ true → ending ≡ Close) → (ended ≡ false → ending ≡ told) → EndsAs left left' limit given told
    → EndsAs left left' limit (unless_ended ended given) ending
unless_ended_ends left left' limit true given told ending closes same ends =
    subst (EndsAs left left' limit (Err EarlyEnd)) (sym (closes refl)) tt
unless_ended_ends left left' limit false given told ending closes same ends =
    subst (EndsAs left left' limit given) (sym (same refl)) ends

pub through_ends :
    (left left' : Option (List ℕ)) (limit : ℕ) (ended : Bool) (given result : Result HttpReply WireFault) (told ending : ConnectionEnding)
    → result ≡ unless_ended ended given → (ended ≡ true → ending ≡ Close) → (ended ≡ false → ending ≡ told)
    → EndsAs left left' limit given told → EndsAs left left' limit result ending
through_ends left left' limit ended given result told ending is closes same ends =
    subst (λ r. EndsAs left left' limit r ending) (sym is) (unless_ended_ends left left' limit ended given told ending closes same ends)
