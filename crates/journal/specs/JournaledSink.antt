-- A write that waits until something else has come up.
-- Cited by `JournaledSink`.
use Rattle.std.specs.Prelude.{◌≡◌, ℕ, Result, OnOk, OnErr, IsErr}
use Rattle.counted_io.specs.Device.{failures_after}
use Rattle.counted_io.specs.declared.fault.DeviceFault.{DeviceFault}

-- it came up under this write's number; if that failed, the write failed and wrote nothing; else the sink wrote
pub record GoesFirst
    {S : Type 0} (comes : Result Unit DeviceFault → Type 0) (failures : S → ℕ) (sink sink' : S)
    (result : Result ℕ DeviceFault) : Type 0 where
  pub up : Result Unit DeviceFault
  pub came : comes up
  pub held : OnErr up (sink' ≡ sink)
  pub told : OnErr up (IsErr result)
  pub wrote : OnOk up (failures sink' ≡ failures_after (failures sink) result)
