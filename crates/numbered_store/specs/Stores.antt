-- A store of values found by their numbers, as contracts see it.
-- Cited by `Store` and by what keeps values in one.
use Rattle.std.specs.Prelude.{ℕ, ◌==◌, ◌&&◌, Bool, List, ◌++◌, slice_get, Option}
use Rattle.numbered_store.specs.declared.store.Spot.{Spot}
use Rattle.numbered_store.specs.declared.store.Spot.TheVariants as spots

-- the values found by number: the first of each number, the others, and how many more fit without growth
pub record StoreView (X : Type 0) : Type 0 where
  pub first : List X
  pub twins : List X
  pub room : ℕ

-- all of them
abbrev pub kept_in : {X : Type 0} → StoreView X → List X
kept_in s = s.first ++ s.twins

-- what is kept at a spot
abbrev pub kept_at : {X : Type 0} → StoreView X → Spot → Option X
kept_at s (spots.First place) = slice_get s.first place
kept_at s (spots.Twin place) = slice_get s.twins place

-- the value has the number and passes the test
abbrev pub is_sought : {X : Type 0} → (X → ℕ) → (X → Bool) → ℕ → X → Bool
is_sought named accepts number x = (named x == number) && accepts x
