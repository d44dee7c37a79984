-- The remaining time, in nanoseconds.
-- Used by `Deadline`.
use Rattle.std.specs.Prelude.{◌≡◌, ℕ, ◌-◌, ◌<◌, min, Option, MatchOption}
use Rattle.std.specs.Duration.{as_nanos}
use Rattle.std.specs.declared.time.Duration.{Duration}

-- a step's time at a moment: the smaller of its limit and what is left of the whole, which began at another moment
abbrev pub time_left : ℕ → ℕ → ℕ → ℕ → ℕ
time_left begun whole step now = min step (whole - (now - begun))

-- the remaining time, if any
abbrev pub IsLeft : Option Duration → ℕ → Type 0
IsLeft given left = MatchOption given (left ≡ 0) (λ duration. (as_nanos duration ≡ left) × (0 < left))
