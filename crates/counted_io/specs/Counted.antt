-- The parts of a counted device.
-- Cited by `Counted`.
use Rattle.std.specs.Prelude.{ℕ}
use Rattle.counted_io.specs.declared.counted.Counted.{Counted}

-- the std reader or writer inside
abbrev pub device_of : {D : Type 0} → Counted D → D
device_of counted = counted.device

-- how many of its calls failed, modulo 2^64
abbrev pub failures_of : {D : Type 0} → Counted D → ℕ
failures_of counted = counted.failures
