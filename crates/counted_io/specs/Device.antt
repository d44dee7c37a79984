-- A device's count of failures, and what a write of a whole text leaves.
-- Cited by `Source`, `Sink` and `write_all`.
use Rattle.std.specs.Prelude.{ℕ, ◌+◌, ◌%◌, ◌^◌, List, take, Option, Result, is_ok, if◌then◌else◌}
use Rattle.std.specs.Io.KnownBytes.{Appends}

-- one failure more, modulo 2^64
abbrev pub one_more : ℕ → ℕ
one_more failures = (failures + 1) % 2 ^ 64

-- one failure more exactly if the call failed
abbrev pub failures_after : {T E : Type 0} → ℕ → Result T E → ℕ
failures_after failures result = if is_ok result then failures else one_more failures

-- known octets grow by a prefix of bytes
abbrev pub AppendsPrefix : Option (List ℕ) → Option (List ℕ) → List ℕ → Type 0
AppendsPrefix old new bytes = (n : ℕ) × Appends old new (take n bytes)
