-- What octets keep, by what the parser finds in them.
-- Used by `kept_in` and `kept_at`.
use Rattle.std.proofs.Common.{◌≡◌, ◌⊎◌, ◌∙◌, ℕ, List, [], ◌++◌, length, map, take, drop, ap, subst, arith, inl, inr, length-append, append-nil}
use Rattle.std.proofs.lemmas.List.{drop_all}
use Rattle.httparse.specs.Grammar.{ResponseHead, print_response, HasNoResponse, NeverHasResponse}
use Rattle.httparse.specs.Spans.{header_bytes, ResponseOverflows}
use Rattle.httparse.specs.declared.spans.HeaderSpan.{HeaderSpan}
use Rattle.httparse.specs.declared.spans.ResponseSpans.{ResponseSpans}
use Rattle.httparse.proofs.GrammarLemmas.{response_unique}
use Rattle.http_wire.specs.Fields.{Pair}
use Rattle.http_wire.specs.Finding.{IsHeadAt, Parses}
use Rattle.http_wire.specs.Heads.{HasHead, head_fields}
use Rattle.http_wire.specs.Kept.{KeepsOf, kept_of}
use Rattle.http_wire.specs.Limits.{max_header_lines}
use Rattle.http_wire.specs.declared.head.Parsed.{Parsed}
use Rattle.http_wire.specs.declared.head.Parsed.TheVariants as parsed

-- no head is all of the octets
abbrev pub IsNoHead : List ℕ → Type 0
IsNoHead octets = (head : ResponseHead) → ¬ (HasHead octets head [])

pub keeps_none : (octets : List ℕ) (kept : List Pair) → IsNoHead octets → kept ≡ [] → KeepsOf octets kept
keeps_none octets kept none empty = record { head = λ head has. absurd (none head has); no_head = λ _. empty }

open_is_none : (octets : List ℕ) → HasNoResponse octets → IsNoHead octets
open_is_none octets none head has = none head [] (has.is.valid, has.parts)

many_is_none : (octets : List ℕ) → ResponseOverflows max_header_lines octets → IsNoHead octets
many_is_none octets over head has =
    omega (arith, over [] head [] (has.is.valid, append-nil octets ∙ has.parts), has.is.lines)

bad_is_none : (octets : List ℕ) → NeverHasResponse octets → IsNoHead octets
bad_is_none octets never head has = never [] head [] (has.is.valid, append-nil octets ∙ has.parts)

pub not_a_head : (octets : List ℕ) (headers : List HeaderSpan) (found : Parsed) → Parses octets headers found →
    (found ≡ parsed.Open) ⊎ ((found ≡ parsed.TooMany) ⊎ (found ≡ parsed.Bad)) → IsNoHead octets
not_a_head octets headers found parses (inl is) = open_is_none octets (subst (Parses octets headers) is parses).0
not_a_head octets headers found parses (inr (inl many)) = many_is_none octets (subst (Parses octets headers) many parses).0
not_a_head octets headers found parses (inr (inr bad)) = bad_is_none octets (subst (Parses octets headers) bad parses)

-- a head at the front that is shorter
pub shorter_is_none : (octets : List ℕ) (headers : List HeaderSpan) (spans : ResponseSpans) (found : ResponseHead) →
    IsHeadAt octets headers spans found → (spans.len ≡ length octets → ⊥) → IsNoHead octets
shorter_is_none octets headers spans found at shorter head has =
    let same = response_unique octets found head (drop spans.len octets) [] at.at.reads (has.is.valid, has.parts) in
    shorter (omega (arith, at.at.len, ap length at.at.reads.1, length-append (print_response found) (drop spans.len octets), ap length same.1))

pub keeps_head : (octets : List ℕ) (headers : List HeaderSpan) (spans : ResponseSpans) (found : ResponseHead) (kept : List Pair) →
    IsHeadAt octets headers spans found → spans.len ≡ length octets →
    kept ≡ kept_of (map (header_bytes octets) (take spans.headers headers)) → KeepsOf octets kept
keeps_head octets headers spans found kept at whole is = record {
  head = λ head has.
      let same = response_unique octets found head (drop spans.len octets) [] at.at.reads (has.is.valid, has.parts) in
      is ∙ ap kept_of at.at.fields ∙ ap (λ k. kept_of (head_fields k)) same.0;
  no_head = λ none.
      let rest : drop spans.len octets ≡ [] = drop_all spans.len octets (omega (arith, whole)) in
      absurd (none found (record { is = at.is; parts = subst (λ (t : List ℕ). octets ≡ print_response found ++ t) rest at.at.reads.1 }));
}
