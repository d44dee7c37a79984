-- What is ahead only grows, so the moments go on by the seconds of the steady clock.
-- Used by the laws of the clock.
use Rattle.std.proofs.Common.{◌≤◌, ◌++◌, ◌∷◌, [], ℕ, List, arith}
use Rattle.gate_clock.specs.declared.moments.ClockReading.{ClockReading}
use Rattle.gate_clock.specs.Moments.{ahead_after, ahead_after_all}
use Rattle.gate_clock.specs.Laws.{IsSteady}

-- readings only raise what is ahead
grows : (ahead : ℕ) (readings : List ClockReading) → ahead ≤ ahead_after_all ahead readings
grows ahead [] = omega (arith)
grows ahead (r ∷ rs) =
    let rest = grows (ahead_after ahead r) rs in
    omega (arith, rest)

-- what is ahead behind a reading in the middle is no less than behind it
after_one : (ahead : ℕ) (before : List ClockReading) (one : ClockReading) (between : List ClockReading)
    → ahead_after (ahead_after_all ahead before) one ≤ ahead_after_all ahead (before ++ one ∷ between)
after_one ahead [] one between = grows (ahead_after ahead one) between
after_one ahead (r ∷ rs) one between = after_one (ahead_after ahead r) rs one between

pub steady : (epoch ahead : ℕ) (before : List ClockReading) (one : ClockReading) (between : List ClockReading) (other : ClockReading)
    → IsSteady epoch ahead before one between other
steady epoch ahead before one between other =
    let more = after_one ahead before one between in
    record {
      wall = omega (arith);
      seconds = λ order. omega (arith, more, order);
    }
