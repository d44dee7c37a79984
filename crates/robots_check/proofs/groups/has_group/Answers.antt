-- The search finds the group exactly if it is there.
use Rattle.std.proofs.Common.{◌≡◌, ◌<◌, ◌≤◌, ℕ, List, length, slice_index_or, ◌∙◌, inl, inr, sym, arith, eq-eqb, eqb-true}
use Rattle.std.specs.Prelude.{◌==◌, Result, Ok, Err, MatchResult}
use Rattle.std.specs.Result.{is_ok}
use Rattle.std.proofs.lemmas.Bool.{cases_lt, false_from_ne_true}
use Rattle.std.proofs.lemmas.List.{get_or_default}
use Rattle.std.proofs.lemmas.List.Folds.{list_any_at}
use Rattle.std.proofs.lemmas.List.Sorted.{searched}
use Rattle.robots_text.proofs.CallerLemmas.{any_passes}
use Rattle.robots_check.specs.Said.{has_group}
use Rattle.robots_check.proofs.groups.has_group.Goals as goal

found : (groups : List ℕ) (sought : ℕ) (r : Result ℕ ℕ) →
    MatchResult r (λ i. (i < length groups) × (slice_index_or groups i 0 ≡ sought))
    (λ i. (i ≤ length groups) × ((k : ℕ) → k < i → slice_index_or groups k 0 < sought) × ((k : ℕ) → i ≤ k → k < length groups → sought < slice_index_or groups k 0)) →
    is_ok r ≡ has_group groups sought
found groups sought (Ok i) at = sym (list_any_at (λ group. group == sought) groups i 0 at.0 (eq-eqb (slice_index_or groups i 0) sought at.1))
found groups sought (Err i) at = sym (false_from_ne_true (has_group groups sought) (λ is.
    let one = any_passes (λ group. group == sought) groups is in
    let same : one.one ≡ sought = eqb-true one.one sought one.passes in
    let stands : slice_index_or groups one.stands.0 0 ≡ one.one = get_or_default groups one.stands.0 0 one.one one.stands.1 ∙ one.stands.2 in
    elim (cases_lt one.stands.0 i) [
      | inl before ↦ omega (arith, at.1 one.stands.0 before, same, stands)
      | inr after ↦ omega (arith, at.2 one.stands.0 after one.stands.1, same, stands)
    ]))

pub returns : goal.returns
returns c =
    c.is_ok.ensures.value
    ∙ found c.args.groups.now c.args.sought c.binary_search.result
    (searched c.args.groups.now c.args.sought c.binary_search.result c.binary_search.ensures.position (λ i j before within. c.requires i j 0 before within))
