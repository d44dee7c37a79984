-- The numbers of a clock's readings.
-- Cited by sessions and by what maintains a server's gate.
use Rattle.std.specs.Prelude.{ℕ, zero, suc, ◌+◌, ◌-◌, ◌^◌, min}

-- the next reading's number, below the largest `u64`
abbrev pub next_reading : ℕ → ℕ
next_reading number = min (number + 1) (2 ^ 64 - 1)

-- the number of the reading after this many, counted from 0
abbrev pub reading_after : ℕ → ℕ
reading_after zero = 0
reading_after (suc count) = next_reading (reading_after count)
