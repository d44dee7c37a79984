-- What a look at a head tells of the input, whatever follows.
-- Used by `HeadFinder`.
use Rattle.std.proofs.Common.{◌≡◌, ℕ, ◌+◌, ◌*◌, ◌<◌, ◌≤◌, ◌-◌, false, List, [], ◌∷◌, ◌++◌, length, map, take, drop, sym, ap, subst, ◌∙◌, arith, append_assoc, length-append, length-take, length-drop, take-append-drop, inl, inr}
use Rattle.std.proofs.Math.Seq.{take-append-add, take-append_seam, drop-append_seam}
use Rattle.std.specs.Prelude.{IsTrue, ◌||◌}
use Rattle.std.specs.List.{flat_map}
use Rattle.std.proofs.lemmas.List.{take_all, take-append-le, drop-drop}
use Rattle.std.proofs.lemmas.List.Elements.{All-push}
use Rattle.std.proofs.lemmas.List.{flat_map_more}
use Rattle.httparse.specs.Grammar.{ResponseHead, print_response, status_code, ReadsResponse, HasNoResponse, NeverHasResponse, MayBecomeResponse}
use Rattle.httparse.specs.Spans.{header_bytes, ResponseOverflows, ResponseExceeds}
use Rattle.http_wire.specs.Heads.{AfterInterims, head_fields, HasFinal, HasInterims, HasHead, HasTooManyInterim, IsBadHead, IsInterim, IsLongHead, line_ends, is_interim, is_final}
use Rattle.http_wire.specs.Finding.{Passes, IsHeadPrefix, IsHeadAt, IsPlan, IsFound, HasNoPlan, Faults}
use Rattle.http_wire.specs.Fields.{Pair}
use Rattle.http_wire.specs.Response.{Cause}
use Rattle.http_wire.specs.declared.fault.WireFault.{WireFault}
use Rattle.http_wire.specs.declared.fault.WireFault.TheVariants.{EarlyEnd, BadHead, HeadTooLong, TooManyInterim, BadLength, BadChunk, Coding, Device, NoMemory, TooMuch}
use Rattle.http_wire.specs.declared.head.FinalHead.{FinalHead}
use Rattle.httparse.specs.declared.spans.HeaderSpan.{HeaderSpan}
use Rattle.httparse.specs.declared.spans.ResponseSpans.{ResponseSpans}
use Rattle.http_wire.specs.declared.head.HeadFinder.{HeadFinder}
use Rattle.http_wire.specs.Limits.{max_header_lines, max_head, max_interim_heads}
use Rattle.http_wire.proofs.LineEnds.{lines_in_prefix, exceeds_lines}

-- ---- more octets after a text

pub parts_append : (text prefix rest more : List ℕ) → text ≡ prefix ++ rest → text ++ more ≡ prefix ++ (rest ++ more)
parts_append text prefix rest more parts = ap (λ (t : List ℕ). t ++ more) parts ∙ append_assoc prefix rest more

pub head_append : (text : List ℕ) (head : ResponseHead) (rest more : List ℕ) → HasHead text head rest
    → HasHead (text ++ more) head (rest ++ more)
head_append text head rest more has =
    record { is = has.is; parts = parts_append text (print_response head) rest more has.parts }

pub interims_append : (heads : List ResponseHead) (text rest more : List ℕ) → HasInterims heads text rest
    → HasInterims heads (text ++ more) (rest ++ more)
interims_append heads text rest more has =
    record { are = has.are; parts = parts_append text (flat_map print_response heads) rest more has.parts }

pub after_passed : {Fact : List ℕ → Type 0} (finder : HeadFinder) (bytes more : List ℕ) → Passes finder bytes
    → Fact (drop finder.at bytes ++ more) → AfterInterims Fact (bytes ++ more)
after_passed finder bytes more passes fact = record {
  heads = passes.heads;
  rest = drop finder.at bytes ++ more;
  few = omega (arith, passes.count, passes.few);
  passed = interims_append passes.heads bytes (drop finder.at bytes) more passes.passed;
  fact = fact;
}

-- ---- the prefix of a text

pub prefix_split : (text : List ℕ) (n : ℕ) (more : List ℕ) → text ++ more ≡ take n text ++ (drop n text ++ more)
prefix_split text n more = parts_append text (take n text) (drop n text) more (sym (take-append-drop n text))

pub never_prefix : (text more : List ℕ) → NeverHasResponse (take max_head text) → NeverHasResponse (text ++ more)
never_prefix text more never later head rest reads =
    never (drop max_head text ++ (more ++ later)) head rest
    (subst (λ (t : List ℕ). ReadsResponse t head rest)
    (append_assoc text more later ∙ prefix_split text max_head (more ++ later)) reads)

in_prefix : (text more : List ℕ) (head : ResponseHead) (rest : List ℕ) → max_head ≤ length text → HasHead (text ++ more) head rest
    → (tail : List ℕ) × ReadsResponse (take max_head text) head tail
in_prefix text more head rest full has =
    let print = print_response head in
    let same : take max_head (text ++ more) ≡ take max_head text = take-append-le max_head text more full in
    let room = max_head - length print in
    let whole : length print + room ≡ max_head = omega (arith, has.is.octets) in
    let prefix : take max_head (text ++ more) ≡ print ++ take room rest =
    ap (take max_head) has.parts ∙ ap (λ n. take n (print ++ rest)) (sym whole) ∙ take-append-add print rest room in
    (take room rest, (has.is.valid, sym same ∙ prefix))

pub long_open : (text more : List ℕ) → max_head ≤ length text → HasNoResponse (take max_head text) → IsLongHead (text ++ more)
long_open text more full none = record {
  none = λ head rest has. let inside = in_prefix text more head rest full has in none head inside.0 inside.1;
  long = inl (omega (arith, full, length-append text more));
}

pub long_many : (text more : List ℕ) → ResponseOverflows max_header_lines (take max_head text)
    → ResponseExceeds max_header_lines (take max_head text) → IsLongHead (text ++ more)
long_many text more over exceeds = record {
  none = λ head rest has.
      let many = over (drop max_head text ++ more) head rest
      (has.is.valid, sym (prefix_split text max_head more) ∙ has.parts) in
      omega (arith, many, has.is.lines);
  long = inr (omega (arith, exceeds_lines (take max_head text) exceeds, prefix_lines));
} where
  prefix_lines : line_ends (take max_head text) ≤ line_ends (take max_head (text ++ more))
  prefix_lines =
      omega (
        arith,
        lines_in_prefix (take max_head text) (drop max_head text ++ more) (omega (arith, length-take max_head text)),
        ap (λ (t : List ℕ). line_ends (take max_head t)) (prefix_split text max_head more),
      )

-- ---- a head that was parsed

pub head_found : (text : List ℕ) (headers : List HeaderSpan) (spans : ResponseSpans) (head : ResponseHead)
    → IsHeadAt (take max_head text) headers spans head → HasHead text head (drop spans.len text)
head_found text headers spans head found =
    let prefix = take max_head text in
    let print = print_response head in
    let len : spans.len ≡ length print = found.at.len in
    let split : text ≡ print ++ (drop spans.len prefix ++ drop max_head text) =
    sym (take-append-drop max_head text) ∙ parts_append prefix print (drop spans.len prefix) (drop max_head text) found.at.reads.1 in
    let tail : drop spans.len text ≡ drop spans.len prefix ++ drop max_head text =
    ap (λ n. drop n text) len ∙ ap (drop (length print)) split ∙ drop-append_seam print (drop spans.len prefix ++ drop max_head text) in
    record { is = found.is; parts = split ∙ ap (λ (t : List ℕ). print ++ t) (sym tail) }

pub interims_push : (heads : List ResponseHead) (head : ResponseHead) (text middle rest : List ℕ)
    → HasInterims heads text middle → HasHead middle head rest → IsTrue (is_interim (status_code head))
    → HasInterims (heads ++ head ∷ []) text rest
interims_push heads head text middle rest has next interim = record {
  are = All-push IsInterim heads head has.are (record { is = next.is; status = interim });
  parts =
      has.parts ∙ ap (λ (t : List ℕ). flat_map print_response heads ++ t) next.parts
      ∙ sym (append_assoc (flat_map print_response heads) (print_response head) rest)
      ∙ ap (λ (t : List ℕ). t ++ rest) (flat_map_more print_response [] heads head);
}

pub passes_next : (finder new : HeadFinder) (bytes : List ℕ) (headers : List HeaderSpan) (spans : ResponseSpans) (head : ResponseHead)
    → Passes finder bytes → IsHeadAt (take max_head (drop finder.at bytes)) headers spans head
    → IsTrue (is_interim spans.code) → finder.passed < max_interim_heads
    → new.at ≡ finder.at + spans.len → new.passed ≡ finder.passed + 1 → Passes new bytes
passes_next finder new bytes headers spans head passes found interim few at passed =
    let text = drop finder.at bytes in
    let has = head_found text headers spans head found in
    let status : IsTrue (is_interim (status_code head)) = subst (λ code. IsTrue (is_interim code)) found.at.code interim in
    let place : drop spans.len text ≡ drop new.at bytes =
    drop-drop spans.len finder.at bytes ∙ ap (λ n. drop n bytes) (sym at) in
    let len = length-take max_head text in
    record {
      heads = passes.heads ++ head ∷ [];
      passed = subst (HasInterims (passes.heads ++ head ∷ []) bytes) place
          (interims_push passes.heads head bytes text (drop spans.len text) passes.passed has status);
      count = omega (arith, length-append passes.heads (head ∷ []), passes.count, passed);
      few = omega (arith, few, passed);
      within = omega (arith, passes.within, found.within.section.len_fits, len, at, length-drop finder.at bytes);
      soon = omega (arith, passes.soon, found.within.section.len_fits, len, at, passed);
    }

-- ---- what a status tells

pub too_many : (finder : HeadFinder) (bytes more : List ℕ) (headers : List HeaderSpan) (spans : ResponseSpans) (head : ResponseHead)
    → Passes finder bytes → IsHeadAt (take max_head (drop finder.at bytes)) headers spans head
    → IsTrue (is_interim spans.code) → max_interim_heads ≤ finder.passed → HasTooManyInterim (bytes ++ more)
too_many finder bytes more headers spans head passes found interim many =
    let text = drop finder.at bytes in
    let has = head_found text headers spans head found in
    let status : IsTrue (is_interim (status_code head)) = subst (λ code. IsTrue (is_interim code)) found.at.code interim in
    record {
      heads = passes.heads ++ head ∷ [];
      rest = drop spans.len text ++ more;
      many = omega (arith, length-append passes.heads (head ∷ []), passes.count, passes.few, many);
      passed = interims_append (passes.heads ++ head ∷ []) bytes (drop spans.len text) more
          (interims_push passes.heads head bytes text (drop spans.len text) passes.passed has status);
    }

pub strange : (finder : HeadFinder) (bytes more : List ℕ) (headers : List HeaderSpan) (spans : ResponseSpans) (head : ResponseHead)
    → Passes finder bytes → IsHeadAt (take max_head (drop finder.at bytes)) headers spans head
    → (is_interim spans.code || is_final spans.code) ≡ false → AfterInterims IsBadHead (bytes ++ more)
strange finder bytes more headers spans head passes found status =
    let text = drop finder.at bytes in
    after_passed finder bytes more passes (inr (record {
      head = head;
      rest = drop spans.len text ++ more;
      has = head_append text head (drop spans.len text) more (head_found text headers spans head found);
      status = subst (λ code. (is_interim code || is_final code) ≡ false) found.at.code status;
    }))

final_found : (finder : HeadFinder) (bytes : List ℕ) (headers : List HeaderSpan) (spans : ResponseSpans) (head : ResponseHead)
    → Passes finder bytes → IsHeadAt (take max_head (drop finder.at bytes)) headers spans head
    → IsTrue (is_final spans.code) → HasFinal bytes head (drop (finder.at + spans.len) bytes)
final_found finder bytes headers spans head passes found final =
    let text = drop finder.at bytes in
    let place : drop spans.len text ≡ drop (finder.at + spans.len) bytes = drop-drop spans.len finder.at bytes in
    record {
      heads = passes.heads;
      rest = text;
      few = omega (arith, passes.count, passes.few);
      passed = passes.passed;
      fact = record {
        has = subst (HasHead text head) place (head_found text headers spans head found);
        status = subst (λ code. IsTrue (is_final code)) found.at.code final;
      };
    }

pub final_append : (text : List ℕ) (head : ResponseHead) (after more : List ℕ) → HasFinal text head after
    → HasFinal (text ++ more) head (after ++ more)
final_append text head after more final = record {
  heads = final.heads;
  rest = final.rest ++ more;
  few = final.few;
  passed = interims_append final.heads text final.rest more final.passed;
  fact = record { has = head_append final.rest head after more final.fact.has; status = final.fact.status };
}

told : (Fact : ℕ → List Pair → Type 0) (prefix : List ℕ) (headers : List HeaderSpan) (spans : ResponseSpans) (head : ResponseHead) → IsHeadAt prefix headers spans head
    → Fact spans.code (map (header_bytes prefix) (take spans.headers headers))
    → Fact (status_code head) (head_fields head)
told Fact prefix headers spans head found fact =
    subst (λ code. Fact code (head_fields head)) found.at.code (subst (Fact spans.code) found.at.fields fact)

head_octets : (text : List ℕ) (headers : List HeaderSpan) (spans : ResponseSpans) (head : ResponseHead) → IsHeadAt text headers spans head
    → take spans.len text ≡ print_response head
head_octets text headers spans head found =
    ap (λ n. take n text) found.at.len ∙ ap (take (length (print_response head))) found.at.reads.1
    ∙ take-append_seam (print_response head) (drop spans.len text)

pub planned : (finder : HeadFinder) (bytes : List ℕ) (headers : List HeaderSpan) (spans : ResponseSpans) (head : ResponseHead)
    (plan : FinalHead) → Passes finder bytes → IsHeadAt (take max_head (drop finder.at bytes)) headers spans head
    → IsTrue (is_final spans.code)
    → IsPlan spans.code spans.version (map (header_bytes (take max_head (drop finder.at bytes))) (take spans.headers headers))
    (take spans.len (take max_head (drop finder.at bytes))) (finder.at + spans.len) plan
    → IsFound bytes plan
planned finder bytes headers spans head plan passes found final is =
    let prefix = take max_head (drop finder.at bytes) in
    let fields = map (header_bytes prefix) (take spans.headers headers) in
    let own : IsPlan (status_code head) head.minor (head_fields head) (take spans.len prefix) (finder.at + spans.len) plan =
    told (λ code fields. IsPlan code head.minor fields (take spans.len prefix) (finder.at + spans.len) plan) prefix headers spans head found
    (subst (λ minor. IsPlan spans.code minor fields (take spans.len prefix) (finder.at + spans.len) plan) found.at.version is) in
    let len = length-take max_head (drop finder.at bytes) in
    record {
      head = head;
      final = subst (λ n. HasFinal bytes head (drop n bytes)) (sym own.end_is) (final_found finder bytes headers spans head passes found final);
      within = omega (arith, own.end_is, passes.within, found.within.section.len_fits, len, length-drop finder.at bytes);
      framed = own.framed;
      uncoded = own.uncoded;
      status = own.status;
      location = own.location;
      max_age = own.max_age;
      persists = own.persists;
      octets = own.octets ∙ head_octets prefix headers spans head found;
    }

pub unplanned : (finder : HeadFinder) (bytes : List ℕ) (headers : List HeaderSpan) (spans : ResponseSpans) (head : ResponseHead)
    (fault : WireFault) → Passes finder bytes → IsHeadAt (take max_head (drop finder.at bytes)) headers spans head
    → IsTrue (is_final spans.code)
    → HasNoPlan spans.code (map (header_bytes (take max_head (drop finder.at bytes))) (take spans.headers headers)) fault
    → Faults bytes fault
unplanned finder bytes headers spans head fault passes found final none more limit =
    by_fault fault
    (told (λ code fields. HasNoPlan code fields fault) (take max_head (drop finder.at bytes)) headers spans head found none)
  where
    after : List ℕ
    after = drop (finder.at + spans.len) bytes ++ more

    whole : HasFinal (bytes ++ more) head after
    whole = final_append bytes head (drop (finder.at + spans.len) bytes) more (final_found finder bytes headers spans head passes found final)

    by_fault : (fault : WireFault) → HasNoPlan (status_code head) (head_fields head) fault → Cause fault (bytes ++ more) limit
    by_fault BadLength bad = record { head = head; text = after; final = whole; fact = bad }
    by_fault Coding coded = record { head = head; text = after; final = whole; fact = coded }
    by_fault NoMemory _ = tt
    by_fault EarlyEnd none = absurd none
    by_fault BadHead none = absurd none
    by_fault HeadTooLong none = absurd none
    by_fault TooManyInterim none = absurd none
    by_fault BadChunk none = absurd none
    by_fault Device none = absurd none
    by_fault TooMuch none = absurd none

-- ---- what the parser tells

short_prefix : (text : List ℕ) → length (take max_head text) < max_head → length text < max_head
short_prefix text short = omega (arith, length-take max_head text, short)

pub prefix_open : (finder new : HeadFinder) (bytes prefix : List ℕ) → prefix ≡ take max_head (drop finder.at bytes)
    → new.at ≡ finder.at → HasNoResponse prefix → MayBecomeResponse prefix → length prefix < max_head
    → IsHeadPrefix (drop new.at bytes)
prefix_open finder new bytes prefix is at none unfinished short =
    let text = drop finder.at bytes in
    let less = short_prefix text (subst (λ (t : List ℕ). length t < max_head) is short) in
    let whole : prefix ≡ text = is ∙ take_all max_head text (omega (arith, less)) in
    subst (λ n. IsHeadPrefix (drop n bytes)) (sym at) (record {
      none = subst HasNoResponse whole none;
      unfinished = subst MayBecomeResponse whole unfinished;
      octets = less;
    })

pub passes_same : (finder new : HeadFinder) (bytes : List ℕ) → new.at ≡ finder.at → new.passed ≡ finder.passed
    → Passes finder bytes → Passes new bytes
passes_same finder new bytes at passed passes = record {
  heads = passes.heads;
  passed = subst (λ n. HasInterims passes.heads bytes (drop n bytes)) (sym at) passes.passed;
  count = passes.count ∙ sym passed;
  few = omega (arith, passes.few, passed);
  within = omega (arith, passes.within, at);
  soon = subst (λ n. n ≤ new.passed * max_head) (sym at) (subst (λ n. finder.at ≤ n * max_head) (sym passed) passes.soon);
}

pub short_of : (finder new : HeadFinder) (bytes prefix : List ℕ) → prefix ≡ take max_head (drop finder.at bytes)
    → new.at ≡ finder.at → Passes finder bytes → length prefix < max_head → length bytes < new.at + max_head
short_of finder new bytes prefix is at passes short =
    let less = short_prefix (drop finder.at bytes) (subst (λ (t : List ℕ). length t < max_head) is short) in
    omega (arith, less, length-drop finder.at bytes, at, passes.within)

pub open_long : (finder : HeadFinder) (bytes prefix more : List ℕ) → prefix ≡ take max_head (drop finder.at bytes)
    → Passes finder bytes → HasNoResponse prefix → max_head ≤ length prefix → AfterInterims IsLongHead (bytes ++ more)
open_long finder bytes prefix more is passes none full =
    let text = drop finder.at bytes in
    let long : max_head ≤ length text = omega (arith, full, ap length is, length-take max_head text) in
    after_passed finder bytes more passes (long_open text more long (subst HasNoResponse is none))

pub many_long : (finder : HeadFinder) (bytes prefix more : List ℕ) → prefix ≡ take max_head (drop finder.at bytes)
    → Passes finder bytes → ResponseOverflows max_header_lines prefix → ResponseExceeds max_header_lines prefix
    → AfterInterims IsLongHead (bytes ++ more)
many_long finder bytes prefix more is passes over exceeds =
    after_passed finder bytes more passes (long_many (drop finder.at bytes) more
    (subst (ResponseOverflows max_header_lines) is over) (subst (ResponseExceeds max_header_lines) is exceeds))

pub never_bad : (finder : HeadFinder) (bytes prefix more : List ℕ) → prefix ≡ take max_head (drop finder.at bytes)
    → Passes finder bytes → NeverHasResponse prefix → AfterInterims IsBadHead (bytes ++ more)
never_bad finder bytes prefix more is passes never =
    after_passed finder bytes more passes (inl (never_prefix (drop finder.at bytes) more (subst NeverHasResponse is never)))

pub ends_long : (finder : HeadFinder) (bytes : List ℕ) → Passes finder bytes → IsHeadPrefix (drop finder.at bytes)
    → max_header_lines < line_ends (drop finder.at bytes) → AfterInterims IsLongHead bytes
ends_long finder bytes passes prefix many =
    let text = drop finder.at bytes in
    record {
      heads = passes.heads;
      rest = text;
      few = omega (arith, passes.count, passes.few);
      passed = passes.passed;
      fact = record {
        none = λ head rest has. prefix.none head rest (has.is.valid, has.parts);
        long = inr (omega (arith, many, ap line_ends (take_all max_head text (omega (arith, prefix.octets)))));
      };
    }
