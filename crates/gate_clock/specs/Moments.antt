-- The moments of a clock that goes on by a steady clock wherever the wall clock was set back.
-- Cited by `moments.rt` and `steady_clock.rt`. RFC 9309, section 2.4.
use Rattle.std.specs.Prelude.{◌≡◌, ◌↔◌, ℕ, ◌+◌, ◌-◌, ◌/◌, ◌^◌, max, min, Bool, false, nat_lt, if◌then◌else◌, List, [], ◌∷◌}
use Rattle.gate_clock.specs.declared.moments.ClockReading.{ClockReading}
use Rattle.gate_clock.specs.declared.steady_clock.Beginning.{Beginning}
use Rattle.gate_clock.specs.declared.steady_clock.Beginning.TheVariants.{GoesOn}

-- by how many seconds the wall clock may be behind a gate's last moment when the gate goes on
abbrev pub slack_seconds : ℕ
slack_seconds = 60

-- one second more than an answer lasts
abbrev pub day_past : ℕ
day_past = 86401

-- the wall clock is behind a gate's last moment by more than that
abbrev pub is_set_back : ℕ → ℕ → Bool
is_set_back last wall = nat_lt slack_seconds (last - wall)

-- from which moment on a clock counts: the later one of the gate's last and the wall clock's; where the wall clock was
-- set back, a moment at which no answer of before lasts
abbrev pub epoch_of : ℕ → ℕ → ℕ
epoch_of last wall = if is_set_back last wall then last + day_past else max last wall

-- how far the moments are ahead of the steady clock after a reading: as far as the wall clock has ever been
abbrev pub ahead_after : ℕ → ClockReading → ℕ
ahead_after ahead reading = max ahead (reading.past - reading.elapsed)

-- the same after several readings, in order
abbrev pub ahead_after_all : ℕ → List ClockReading → ℕ
ahead_after_all ahead [] = ahead
ahead_after_all ahead (reading ∷ later) = ahead_after_all (ahead_after ahead reading) later

-- the moment of a reading, in seconds, where the moments are so far ahead
abbrev pub moment_at : ℕ → ℕ → ClockReading → ℕ
moment_at epoch ahead reading = epoch + (reading.elapsed + ahead) / 1_000_000_000

-- the moment of a reading behind others
abbrev pub moment_after : ℕ → ℕ → List ClockReading → ClockReading → ℕ
moment_after epoch ahead before reading = moment_at epoch (ahead_after (ahead_after_all ahead before) reading) reading

-- a clock counts from the epoch of a gate's last moment and what the wall clock showed, and how it goes on says whether
-- that was set back
abbrev pub BeginsAt : ℕ → ℕ → Beginning → Type 0
BeginsAt last epoch beginning =
    (wall : ℕ) × ((epoch ≡ min (epoch_of last wall) (2 ^ 64 - 1))
    × ((beginning ≡ GoesOn) ↔ (is_set_back last wall ≡ false)))
