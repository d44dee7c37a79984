-- What each place of a loop is doing, and the queues of those that are free or called.
-- The contracts of `Queues` cite it.
use Rattle.std.specs.Prelude.{◌≡◌, ◌+◌, ◌<◌, ◌==◌, ℕ, zero, suc, Bool, true, false, List, [], ◌∷◌, length, if◌then◌else◌}
use Rattle.turns.specs.declared.queues.PlaceMark.{PlaceMark}
use Rattle.turns.specs.declared.queues.PlaceMark.TheVariants.{Free, Quick, Slow, Ends}

-- it has no client
abbrev pub is_free : PlaceMark → Bool
is_free Free = true
is_free _ = false

-- it is called, but not for a slow step
abbrev pub is_quick : PlaceMark → Bool
is_quick Quick = true
is_quick Ends = true
is_quick _ = false

-- it is called for a slow step
abbrev pub is_slow : PlaceMark → Bool
is_slow Slow = true
is_slow _ = false

-- how often a place stands in a queue
abbrev pub times : ℕ → List ℕ → ℕ
times place [] = 0
times place (other ∷ others) = (if other == place then 1 else 0) + times place others

-- 1 if the place is marked so, else 0
abbrev pub marked : (PlaceMark → Bool) → List PlaceMark → ℕ → ℕ
marked test [] place = 0
marked test (mark ∷ marks) zero = if test mark then 1 else 0
marked test (mark ∷ marks) (suc place) = marked test marks place

-- each place that is marked so stands once in the queue, and no other does
abbrev pub Lists : (PlaceMark → Bool) → List PlaceMark → List ℕ → Type 0
Lists test marks queue = (place : ℕ) → times place queue ≡ marked test marks place

-- the place is neither free nor called
pub record IsUnlisted (marks : List PlaceMark) (place : ℕ) : Type 0 where
  pub within : place < length marks
  pub free : marked is_free marks place ≡ 0
  pub quick : marked is_quick marks place ≡ 0
  pub slow : marked is_slow marks place ≡ 0
