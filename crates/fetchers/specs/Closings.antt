-- What closed a site, and which count of failed fetches of robots.txt files it belongs to.
-- Used by `ClosedBy` and `FetchMeter`; RFC 9309, section 2.3.1.4.
use Rattle.std.specs.Prelude.{Option, Some, None, Result, Ok, Err, if◌then◌else◌}
use Rattle.robots_fetch.specs.Statuses.{is_from}
use Rattle.http_wire.specs.declared.fault.WireFault.{WireFault}
use Rattle.http_wire.specs.declared.fault.WireFault.TheVariants as wire
use Rattle.http_wire.specs.declared.response.HttpReply.{HttpReply}
use Rattle.http_client.specs.declared.failure.Failure.{Failure}
use Rattle.http_client.specs.declared.failure.Failure.TheVariants as failures
use Rattle.fetchers.specs.declared.closed_by.ClosedBy.{ClosedBy}
use Rattle.fetchers.specs.declared.closed_by.ClosedBy.TheVariants as closings
use Rattle.fetchers.specs.declared.closed_by.RobotsFault.{RobotsFault}
use Rattle.fetchers.specs.declared.closed_by.RobotsFault.TheVariants as faults

-- the result of a fetch, with its device's failure if any
abbrev pub closing_of : Result HttpReply WireFault → Option Failure → ClosedBy
closing_of (Ok reply) failure = closings.Status reply.status
closing_of (Err fault) failure = closings.Fault fault failure

-- the count of a device's failure
abbrev pub fault_of_failure : Failure → RobotsFault
fault_of_failure failures.NoName = faults.NoName
fault_of_failure failures.Refused = faults.Refused
fault_of_failure failures.Unreachable = faults.Refused
fault_of_failure failures.Reset = faults.Other
fault_of_failure (failures.NotConnected limit) = faults.TimedOut
fault_of_failure (failures.Silent limit) = faults.TimedOut
fault_of_failure (failures.TooLong limit) = faults.TimedOut
fault_of_failure failures.NoTls = faults.Tls
fault_of_failure failures.NoTlsProgram = faults.Tls
fault_of_failure failures.Stopped = faults.Other
fault_of_failure failures.Other = faults.Other

-- the count of a response that ended early; over TLS there may have been no connection
abbrev pub fault_of_early_end : Option Failure → RobotsFault
fault_of_early_end (Some failures.NoTls) = faults.Tls
fault_of_early_end _ = faults.Other

-- the count of a fault
abbrev pub fault_of : WireFault → Option Failure → RobotsFault
fault_of wire.Device (Some failure) = fault_of_failure failure
fault_of wire.Device None = faults.Other
fault_of wire.EarlyEnd failure = fault_of_early_end failure
fault_of wire.BadHead _ = faults.Other
fault_of wire.HeadTooLong _ = faults.Other
fault_of wire.TooManyInterim _ = faults.Other
fault_of wire.BadLength _ = faults.Other
fault_of wire.BadChunk _ = faults.Other
fault_of wire.Coding _ = faults.Other
fault_of wire.NoMemory _ = faults.Other
fault_of wire.TooMuch _ = faults.Other

-- the count of what a fetch met: no response, or a server's error
abbrev pub robots_fault_of : ClosedBy → Option RobotsFault
robots_fault_of (closings.Status status) = if is_from 500 599 status then Some faults.Status else None
robots_fault_of (closings.Fault fault failure) = Some (fault_of fault failure)
robots_fault_of closings.BadRedirect = None
robots_fault_of closings.Https = None
robots_fault_of closings.OtherScheme = None
robots_fault_of closings.NoMemory = None
