-- The octets of a literal at its first place, and its places within the path.
-- Used by the answers of `kept`.
use Rattle.std.proofs.Common.{◌≡◌, ◌↔◌, ◌∙◌, ◌+◌, ◌-◌, ◌<◌, ◌≤◌, ℕ, List, Contains, ap, arith, drop, get_or, length, length-drop, length-take-le, slice_index, take}
use Rattle.std.proofs.lemmas.Grind.{get_or_default_zero}
use Rattle.std.proofs.lemmas.List.{get_or-drop, get_or-take}
use Rattle.memchr.specs.Find.{OccursAt}
use Rattle.memchr.proofs.lemmas.MatchLemmas.{OccursAt-part}
use Rattle.path_pattern.specs.Kept.{IsRange, part}

pub first_octets : (path places literal : List ℕ) (start end : ℕ) → IsRange path places literal start end → start < end → take (length literal) (drop (slice_index places start) path) ≡ literal
first_octets path places literal start end range some =
    let place = slice_index places start in
    let bound = range.within in
    let long : length (part places start end) ≡ end - start = length-take-le (end - start) (drop start places) (omega (arith, length-drop start places, bound)) in
    let here : start + 0 ≡ start = omega arith in
    let is = get_or-take (end - start) (drop start places) 0 place (omega (arith, some)) ∙ get_or-drop start places 0 place ∙ ap (λ k. get_or places k place) here ∙ get_or_default_zero places start place (omega (arith, some, bound)) in
    OccursAt-part path literal place ((range.all place).1 (0, omega (arith, long, some), is))

pub within_path : (path places literal : List ℕ) → ((place : ℕ) → OccursAt path literal place ↔ Contains places place) → length path ≤ 12288 → 0 < length literal → (k : ℕ) → Contains places k → k < 12288
within_path path places literal all few some k at = let room = ((all k).1 at).fits in omega (arith, room, few, some)
