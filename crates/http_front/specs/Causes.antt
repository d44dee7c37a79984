-- Why there is no page: the status of a failed fetch, and its type of error.
-- RFC 9209, section 2.3; RFC 9110, sections 15.6.3 and 15.6.5.
use Rattle.std.specs.Prelude.{ℕ, List, ◌∷◌, codes, Option, Some, None}
use Rattle.std.specs.List.{join_with_byte}
use Rattle.robots_text.specs.Octets.{space}
use Rattle.path_normal.specs.PageText.{authority_of}
use Rattle.gate_history.specs.Wording.{cause_words, reason_words}
use Rattle.gate_history.specs.declared.outcome.Reason.{Reason}
use Rattle.gate_core.specs.declared.refusal.Denial.{Denial}
use Rattle.http_client.specs.declared.failure.Failure.{Failure}
use Rattle.http_client.specs.declared.failure.Failure.TheVariants as failures
use Rattle.http_wire.specs.declared.fault.WireFault.{WireFault}
use Rattle.http_wire.specs.declared.fault.WireFault.TheVariants as faults

-- the type of error of a device that failed
abbrev pub failure_error : Failure → List ℕ
failure_error failures.NoName = codes "dns_error"
failure_error failures.Refused = codes "connection_refused"
failure_error failures.Unreachable = codes "destination_ip_unroutable"
failure_error failures.Reset = codes "connection_terminated"
failure_error (failures.NotConnected limit) = codes "connection_timeout"
failure_error (failures.Silent limit) = codes "connection_read_timeout"
failure_error (failures.TooLong limit) = codes "http_response_timeout"
failure_error failures.NoTls = codes "connection_terminated"
failure_error failures.NoTlsProgram = codes "proxy_configuration_error"
failure_error failures.Stopped = codes "proxy_internal_error"
failure_error failures.Other = codes "connection_terminated"

-- the type of error of a device, which may be known
abbrev pub device_error : Option Failure → List ℕ
device_error (Some failure) = failure_error failure
device_error None = codes "connection_terminated"

-- the type of error of a fetch that failed
abbrev pub fault_error : WireFault → Option Failure → List ℕ
fault_error faults.EarlyEnd failure = codes "http_response_incomplete"
fault_error faults.BadHead failure = codes "http_protocol_error"
fault_error faults.HeadTooLong failure = codes "http_response_header_section_size"
fault_error faults.TooManyInterim failure = codes "http_protocol_error"
fault_error faults.BadLength failure = codes "http_protocol_error"
fault_error faults.BadChunk failure = codes "http_protocol_error"
fault_error faults.Coding failure = codes "http_response_content_coding"
fault_error faults.Device failure = device_error failure
fault_error faults.NoMemory failure = codes "proxy_internal_error"
fault_error faults.TooMuch failure = codes "http_response_body_size"

-- a device's status: 504 if a time limit passed
abbrev pub device_status : Option Failure → ℕ
device_status (Some (failures.NotConnected limit)) = 504
device_status (Some (failures.Silent limit)) = 504
device_status (Some (failures.TooLong limit)) = 504
device_status _ = 502

-- the status of a fetch that failed
abbrev pub fault_status : WireFault → Option Failure → ℕ
fault_status faults.Device failure = device_status failure
fault_status faults.NoMemory failure = 503
fault_status _ failure = 502

-- the words of a denial: the authority, and the cause
abbrev pub denial_details : Denial → List ℕ
denial_details denial = join_with_byte space (authority_of denial.url ∷ cause_words denial.cause)

-- the words of a permit and of why its page was allowed
abbrev pub reason_details : List ℕ → Reason → List ℕ
reason_details number reason = join_with_byte space (number ∷ reason_words reason)
