-- Where a literal occurs in a path, as kept.
-- Cited by `kept`.
use Rattle.std.specs.Prelude.{◌↔◌, ◌-◌, ◌<◌, ◌≤◌, ℕ, All, Contains, List, drop, length, slice_index, take}
use Rattle.memchr.specs.Find.{OccursAt}
use Rattle.path_pattern.specs.declared.kept.Stand.{Stand}

-- the places between two indices
abbrev pub part : List ℕ → ℕ → ℕ → List ℕ
part places start end = take (end - start) (drop start places)

-- the literal occurs exactly at those places
pub record IsRange (path places literal : List ℕ) (start end : ℕ) : Type 0 where
  pub order : start ≤ end
  pub within : end ≤ length places
  pub all : (place : ℕ) → OccursAt path literal place ↔ Contains (part places start end) place

-- all the places where the literal occurs are between the indices
pub record IsAmong (path places literal : List ℕ) (low high : ℕ) : Type 0 where
  pub order : low ≤ high
  pub within : high ≤ length places
  pub all : (place : ℕ) → OccursAt path literal place → Contains (part places low high) place

-- the octets of the path at its first place
abbrev pub literal_of : List ℕ → List ℕ → Stand → List ℕ
literal_of path places stand = take stand.count (drop (slice_index places stand.start) path)

-- its places, if any, are all those of its literal
abbrev pub IsKept : List ℕ → List ℕ → Stand → Type 0
IsKept path places stand =
    stand.start < stand.end → IsRange path places (literal_of path places stand) stand.start stand.end

-- each is kept right
abbrev pub AreKept : List ℕ → List ℕ → List Stand → Type 0
AreKept path places stands = All (IsKept path places) stands
