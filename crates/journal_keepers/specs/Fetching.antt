-- A fetch that first waits for something else.
-- Used by `JournaledFetcher`.
use Rattle.std.specs.Prelude.{◌≡◌, ◌⊎◌, Result, Ok, Err}
use Rattle.counted_io.specs.declared.fault.DeviceFault.{DeviceFault}
use Rattle.http_wire.specs.declared.fault.WireFault.{WireFault}
use Rattle.http_wire.specs.declared.response.HttpReply.{HttpReply}

-- that succeeded, and the reply is one of the fetch; or it failed, nothing was fetched, and the reply is a device's
-- fault
abbrev pub GivesBehind : (Result Unit DeviceFault → Type 0) → (Result HttpReply WireFault → Type 0)
    → Result HttpReply WireFault → Type 0
GivesBehind comes gives reply =
    (comes (Ok tt) × gives reply)
    ⊎ ((fault : DeviceFault) × (comes (Err fault) × (reply ≡ Err WireFault.Device)))
