-- What a steady clock keeps: the life of an answer, also where the wall clock is set back.
-- The contracts of `laws.rt`. RFC 9309, section 2.4.
use Rattle.std.specs.Prelude.{◌≡◌, ◌≤◌, ◌+◌, ◌-◌, ◌/◌, ℕ, List, ◌++◌, ◌∷◌, true}
use Rattle.authority_cache.specs.Lives.{greatest_life}
use Rattle.gate_core.specs.Headline.{Allows}
use Rattle.gate_history.specs.History.{History}
use Rattle.gate_clock.specs.declared.moments.ClockReading.{ClockReading}
use Rattle.gate_clock.specs.Moments.{epoch_of, is_set_back, moment_after}

-- whole seconds of the steady clock from one reading to another
abbrev pub seconds_between : ClockReading → ClockReading → ℕ
seconds_between one other = (other.elapsed - one.elapsed) / 1_000_000_000

-- the wall clock is never ahead of the moment of its reading, and from one reading to a later one the moments go on
-- by at least the seconds of the steady clock between them
pub record IsSteady (epoch ahead : ℕ) (before : List ClockReading) (one : ClockReading)
    (between : List ClockReading) (other : ClockReading) : Type 0 where
  pub wall : epoch + one.past / 1_000_000_000 ≤ moment_after epoch ahead before one
  pub seconds : one.elapsed ≤ other.elapsed →
      moment_after epoch ahead before one + seconds_between one other
      ≤ moment_after epoch ahead (before ++ one ∷ between) other

-- whatever the wall clock did: where the moment of a reading is no earlier than the begin of the fetch of an answer,
-- and that of a later one no later than a start that the answer allows, at most a day of the steady clock lies between
-- the two
abbrev pub LastsADay : Type 0
LastsADay = (h : History) (token url : List ℕ) (moment epoch ahead : ℕ)
    (before : List ClockReading) (one : ClockReading) (between : List ClockReading) (other : ClockReading)
    → one.elapsed ≤ other.elapsed
    → (allowed : Allows h token url moment)
    → allowed.answer.begun ≤ moment_after epoch ahead before one
    → moment_after epoch ahead (before ++ one ∷ between) other ≤ moment
    → seconds_between one other ≤ greatest_life

-- where the wall clock was set back before a gate goes on, no answer of before allows a start
abbrev pub EndsAll : Type 0
EndsAll = (h : History) (token url : List ℕ) (moment last wall : ℕ)
    → is_set_back last wall ≡ true
    → epoch_of last wall ≤ moment
    → (allowed : Allows h token url moment)
    → allowed.answer.begun ≤ last
    → ⊥
