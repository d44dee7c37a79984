-- The lanes of a block of 64 places, and what a block holds of a literal.
-- Cited by the search by blocks.
use Rattle.std.specs.Prelude.{◌≡◌, ◌+◌, ◌<◌, ◌≤◌, ℕ, List, length, slice_index}
use Rattle.memchr.specs.Find as find
use Rattle.memchr.specs.Find.{NoneBefore, OccursAt}
use Rattle.path_pattern.specs.declared.blocks.BlockMatch.{BlockMatch}
use Rattle.path_pattern.specs.declared.blocks.BlockMatch.TheVariants.{At, Nearly, Nowhere}
use Rattle.path_pattern.specs.declared.blocks.Telling.{Telling}

-- 64 lanes, of which lane k holds f k
pub record HasLanes (lanes : List ℕ) (f : ℕ → ℕ) : Type 0 where
  pub long : length lanes ≡ 64
  pub each : (k : ℕ) → k < 64 → slice_index lanes k ≡ f k

-- no lane has its top bit
abbrev pub IsNoneLeft : List ℕ → Type 0
IsNoneLeft lanes = (k : ℕ) → slice_index lanes k < 128

-- the octet at the k-th place from start on is the literal's j-th
abbrev pub HasOctet : List ℕ → List ℕ → ℕ → ℕ → ℕ → Type 0
HasOctet path literal start k j = slice_index path (start + k + j) ≡ slice_index literal j

-- of the lanes before, those with both octets of the literal are left
pub record IsLeftOf (path literal : List ℕ) (start one other : ℕ) (before left : List ℕ) : Type 0 where
  pub kept : (k : ℕ) → k < 64 → 128 ≤ slice_index before k → HasOctet path literal start k one
      → HasOctet path literal start k other → 128 ≤ slice_index left k
  pub was : (k : ℕ) → k < 64 → 128 ≤ slice_index left k → 128 ≤ slice_index before k
  pub first : (k : ℕ) → k < 64 → 128 ≤ slice_index left k → HasOctet path literal start k one
  pub second : (k : ℕ) → k < 64 → 128 ≤ slice_index left k → HasOctet path literal start k other

-- both octets are of the literal
abbrev pub IsWithin : Telling → List ℕ → Type 0
IsWithin telling literal = (telling.first < length literal) × (telling.second < length literal)

-- the literal's first of the 64 places from start on; if there is none, the telling octets are the literal's
abbrev pub IsFoundIn : List ℕ → List ℕ → ℕ → BlockMatch → Type 0
IsFoundIn path literal start (At place) =
    NoneBefore (OccursAt path literal) start (start + 64) place × OccursAt path literal place
IsFoundIn path literal start Nowhere = find.Nowhere (OccursAt path literal) start (start + 64)
IsFoundIn path literal start (Nearly telling) =
    find.Nowhere (OccursAt path literal) start (start + 64) × IsWithin telling literal
