-- Places of a history in several lists: each once, and ascending in each list.
-- Cited by the settlement, for the marks of all desks.
use Rattle.std.specs.Prelude.{◌≡◌, ℕ, zero, suc, ◌+◌, ◌<◌, ◌≤◌, ◌==◌, nat_lt, List, [], ◌∷◌, ◌++◌}
use Rattle.authority_cache.specs.Calls.{one_if}

-- all places below a number
abbrev pub places_below : ℕ → List ℕ
places_below zero = []
places_below (suc count) = places_below count ++ count ∷ []

-- the place is before the next one
abbrev pub IsBefore : ℕ → List ℕ → Type 0
IsBefore place [] = Unit {0}
IsBefore place (next ∷ _) = place < next

-- the places ascend
abbrev pub Ascend : List ℕ → Type 0
Ascend [] = Unit {0}
Ascend (place ∷ places) = IsBefore place places × Ascend places

-- the places of each list ascend
abbrev pub AllAscend : List (List ℕ) → Type 0
AllAscend [] = Unit {0}
AllAscend (places ∷ lists) = Ascend places × AllAscend lists

-- how often the place is in the list
abbrev pub times_in : ℕ → List ℕ → ℕ
times_in place [] = 0
times_in place (p ∷ places) = one_if (p == place) + times_in place places

-- how often it is in all lists together
abbrev pub times_in_all : ℕ → List (List ℕ) → ℕ
times_in_all place [] = 0
times_in_all place (places ∷ lists) = times_in place places + times_in_all place lists

-- the places are all those below a number, each once
abbrev pub EachOnce : ℕ → List (List ℕ) → Type 0
EachOnce count lists = (place : ℕ) → times_in_all place lists ≡ one_if (nat_lt place count)

-- the places are all those from one number up to another, each once
abbrev pub EachOnceFrom : ℕ → ℕ → List (List ℕ) → Type 0
EachOnceFrom first count lists =
    (place : ℕ) → times_in_all place lists + one_if (nat_lt place first) ≡ one_if (nat_lt place count)

-- the first place is not below a number
abbrev pub BeginsFrom : ℕ → List ℕ → Type 0
BeginsFrom first [] = Unit {0}
BeginsFrom first (place ∷ _) = first ≤ place

-- the place is the list's first
abbrev pub IsNext : ℕ → List ℕ → Type 0
IsNext place [] = ⊥
IsNext place (next ∷ _) = place ≡ next

-- the place is the first of no list
abbrev pub IsNextOfNone : ℕ → List (List ℕ) → Type 0
IsNextOfNone place [] = Unit {0}
IsNextOfNone place (places ∷ lists) = (IsNext place places → ⊥) × IsNextOfNone place lists

-- all lists are empty
abbrev pub AllEmpty : List (List ℕ) → Type 0
AllEmpty [] = Unit {0}
AllEmpty (places ∷ lists) = (places ≡ []) × AllEmpty lists

-- one of the lists lost the place, which was its first
pub record Passes (place : ℕ) (old new : List (List ℕ)) : Type 0 where
  pub before : List (List ℕ)
  pub places : List ℕ
  pub behind : List (List ℕ)
  pub old_is : old ≡ before ++ (place ∷ places) ∷ behind
  pub new_is : new ≡ before ++ places ∷ behind
