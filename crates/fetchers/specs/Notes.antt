-- What closed a site, with its turn, as one number; of each cause only what its words tell.
-- Used by `ClosingCode` and `ClosingNotes`.
use Rattle.std.specs.Prelude.{ℕ, ◌+◌, ◌*◌, ◌/◌, Option, Some, None}
use Rattle.std.specs.Duration.{as_nanos}
use Rattle.std.specs.declared.time.Duration.{Duration}
use Rattle.http_wire.specs.declared.fault.WireFault.{WireFault}
use Rattle.http_wire.specs.declared.fault.WireFault.TheVariants as wire
use Rattle.http_client.specs.declared.failure.Failure.{Failure}
use Rattle.http_client.specs.declared.failure.Failure.TheVariants as failures
use Rattle.fetchers.specs.declared.closed_by.ClosedBy.{ClosedBy}
use Rattle.fetchers.specs.declared.closed_by.ClosedBy.TheVariants as closings
use Rattle.fetchers.specs.declared.closing_code.ClosingCode.{ClosingCode}

-- how many turns, one after the other, have a slot of their own
abbrev pub slots : ℕ
slots = 65_536

-- a kind of causes, and what is told with it
abbrev pub coded : ℕ → ℕ → ClosingCode
coded kind number = record { kind = kind; number = number }

-- a kind and an exceeded time limit, in whole seconds
abbrev pub past_code : ℕ → Duration → ClosingCode
past_code kind limit = coded kind (as_nanos limit / 1_000_000_000)

-- why a device failed
abbrev pub failure_code : Failure → ClosingCode
failure_code failures.NoName = coded 14 0
failure_code failures.Refused = coded 15 0
failure_code failures.Unreachable = coded 16 0
failure_code failures.Reset = coded 17 0
failure_code (failures.NotConnected limit) = past_code 18 limit
failure_code (failures.Silent limit) = past_code 19 limit
failure_code (failures.TooLong limit) = past_code 20 limit
failure_code failures.NoTls = coded 21 0
failure_code failures.NoTlsProgram = coded 22 0
failure_code failures.Stopped = coded 23 0
failure_code failures.Other = coded 13 0

-- why a response ended early
abbrev pub early_code : Option Failure → ClosingCode
early_code (Some failures.NoTls) = coded 21 0
early_code _ = coded 6 0

-- why a fetch failed
abbrev pub fault_code : WireFault → Option Failure → ClosingCode
fault_code wire.Device (Some failure) = failure_code failure
fault_code wire.Device None = coded 13 0
fault_code wire.EarlyEnd failure = early_code failure
fault_code wire.BadHead _ = coded 7 0
fault_code wire.HeadTooLong _ = coded 8 0
fault_code wire.TooManyInterim _ = coded 9 0
fault_code wire.BadLength _ = coded 10 0
fault_code wire.BadChunk _ = coded 11 0
fault_code wire.Coding _ = coded 12 0
fault_code wire.NoMemory _ = coded 5 0
fault_code wire.TooMuch _ = coded 24 0

-- what closed a site
abbrev pub closing_code : ClosedBy → ClosingCode
closing_code (closings.Status status) = coded 1 status
closing_code closings.BadRedirect = coded 2 0
closing_code closings.Https = coded 3 0
closing_code closings.OtherScheme = coded 4 0
closing_code closings.NoMemory = coded 5 0
closing_code (closings.Fault fault failure) = fault_code fault failure

-- a cause with the round of its turn over all slots
unfoldable pub note_of : ℕ → ClosingCode → ℕ
note_of turn code = (turn / slots * 256 + code.kind) * 65_536 + code.number
