-- One more place, plain or not, and the groups of places.
-- Used by `places_of`, and by the searches of both lists.
use Rattle.std.proofs.Common.{◌≡◌, ℕ, ◌+◌, ◌<◌, Bool, inl, inr, List, [], ◌∷◌, ◌++◌, Contains, length, ap, ◌∙◌, subst, arith, length-append}
use Rattle.std.proofs.lemmas.Bool.{cases_lt}
use Rattle.std.specs.Prelude.{◌↔◌, slice_index}
use Rattle.std.specs.List.Sorted.{IsPermutation}
use Rattle.std.proofs.lemmas.List.{get_or-map, length-map}
use Rattle.std.proofs.lemmas.List.Elements.{Contains-append_left, Contains-push, Contains-push_cases}
use Rattle.std.proofs.lemmas.List.Sorted.{Contains-permutation, IsPermutation-sym}
use Rattle.robots_verdict.specs.Placed.{Placed}
use Rattle.robots_verdict.specs.Rows.{row_at}
use Rattle.robots_verdict.specs.Search.{ArePlaces, groups_at, is_plain_pattern}

pub group_at : (rows : List Placed) (places groups : List ℕ) → groups ≡ groups_at rows places → (k : ℕ) → k < length places →
    slice_index groups k ≡ (row_at rows (slice_index places k)).group
group_at rows places groups are k within =
    ap (λ (l : List ℕ). slice_index l k) are ∙ get_or-map (λ (place : ℕ). (row_at rows place).group) places k 0 0 within

pub as_many : (rows : List Placed) (places groups : List ℕ) → groups ≡ groups_at rows places → length groups ≡ length places
as_many rows places groups are = ap length are ∙ length-map places (λ (place : ℕ). (row_at rows place).group)

pub pushed : (rows : List Placed) (plain : Bool) (places : List ℕ) (count : ℕ) → ArePlaces rows plain places count →
    is_plain_pattern (row_at rows count).form ≡ plain → ArePlaces rows plain (places ++ count ∷ []) (count + 1)
pushed rows plain places count known is = record {
  few = omega (arith, known.few, length-append places (count ∷ []));
  are = λ place. (
    λ stands. elim (Contains-push_cases places count place stands) [
      | inl old ↦ (let both = (known.are place).0 old in (omega (arith, both.0), both.1))
      | inr same ↦ (omega (arith, same), subst (λ (p : ℕ). is_plain_pattern (row_at rows p).form ≡ plain) same is)
    ],
    λ both. elim (cases_lt place count) [
      | inl less ↦ Contains-append_left places (count ∷ []) place ((known.are place).1 (less, both.1))
      | inr more ↦ subst (λ (p : ℕ). Contains (places ++ count ∷ []) p) (omega (arith, both.0, more)) (Contains-push places count)
    ],
  );
}

pub passed : (rows : List Placed) (plain : Bool) (places : List ℕ) (count : ℕ) → ArePlaces rows plain places count →
    (is_plain_pattern (row_at rows count).form ≡ plain → ⊥) → ArePlaces rows plain places (count + 1)
passed rows plain places count known other = record {
  few = omega (arith, known.few);
  are = λ place. (
    λ stands. let both = (known.are place).0 stands in (omega (arith, both.0), both.1),
    λ both. elim (cases_lt place count) [
      | inl less ↦ (known.are place).1 (less, both.1)
      | inr more ↦ (
          let same : place ≡ count = omega (arith, both.0, more) in
          absurd (other (subst (λ (p : ℕ). is_plain_pattern (row_at rows p).form ≡ plain) same both.1))
          )
    ],
  );
}

pub still_places : (rows : List Placed) (plain : Bool) (places ordered : List ℕ) (count : ℕ) → ArePlaces rows plain places count → IsPermutation places ordered →
    (place : ℕ) → Contains ordered place ↔ ((place < count) × (is_plain_pattern (row_at rows place).form ≡ plain))
still_places rows plain places ordered count known same place = (
  λ stands. (known.are place).0 (Contains-permutation ordered places place (IsPermutation-sym places ordered same) stands),
  λ both. Contains-permutation places ordered place same ((known.are place).1 both),
)
