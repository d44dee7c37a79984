-- When a server sweeps its gate. RFC 9309, section 2.4, limits an answer's life.
-- The contracts of `warden.rt`.
use Rattle.std.specs.Prelude.{◌≡◌, ◌⊎◌, ℕ, zero, suc, ◌-◌, Bool, nat_le, nat_lt, ◌||◌, if◌then◌else◌, Result}
use Rattle.gate_core.specs.declared.refusal.SweepRefusal.{SweepRefusal}
use Rattle.gate_core.specs.declared.config.Limits.{Limits}
use Rattle.gate_lock.specs.Desks.{DeskView, IsNew, receipt_of}
use Rattle.gate_marks.specs.Marks.{Receipt}
use Rattle.gate_lock.specs.Steps.{DeskSweeps, Somewhere}
use Rattle.command_server.specs.Readings.{reading_after}

-- the most seconds between two sweeps
abbrev pub sweep_seconds : ℕ
sweep_seconds = 3600

-- the least seconds, while the known authorities are at their limit
abbrev pub full_seconds : ℕ
full_seconds = 60

-- a sweep is due: an hour after the last; after a minute while the known authorities are at their limit; and if the
-- clock was set back
abbrev pub is_due : ℕ → ℕ → Bool → Bool
is_due swept now is_full = nat_lt now swept || nat_le (if is_full then full_seconds else sweep_seconds) (now - swept)

-- one sweep at such a moment is a step of the desk, or nothing is done. What it ended has that moment, or a later one
-- of an entry
abbrev pub MaySweep : (ℕ → Type 0) → DeskView → DeskView → Type 0
MaySweep reads d d2 =
    (d2 ≡ d)
    ⊎ ((m : ℕ) × (reads m
    × ((result : Result ℕ SweepRefusal) × Somewhere d (λ old new. DeskSweeps d old m result new d2))))

-- this many rounds, each at the clock's next reading
abbrev pub GoesRoundsTo : (ℕ → ℕ → Type 0) → ℕ → DeskView → DeskView → Type 0
GoesRoundsTo reads zero d d2 = d2 ≡ d
GoesRoundsTo reads (suc rounds) d d2 =
    (between : DeskView)
    × (GoesRoundsTo reads rounds d between × MaySweep (reads (reading_after (suc rounds))) between d2)

-- some rounds
abbrev pub GoesRounds : (ℕ → ℕ → Type 0) → DeskView → DeskView → Type 0
GoesRounds reads d d2 = (rounds : ℕ) × GoesRoundsTo reads rounds d d2

-- the receipts of a new desk of a lock with these limits, which went its rounds and did nothing else
abbrev pub IsSwept : (ℕ → ℕ → Type 0) → Limits → Receipt → Type 0
IsSwept reads limits receipt =
    (d : DeskView) × ((d2 : DeskView) × (IsNew limits d × (GoesRounds reads d d2 × (receipt ≡ receipt_of d2))))
