-- How the program ends: each ending's exit status, and its message on standard error.
-- docs/crawlgate.1.md has the same table.
use Rattle.std.specs.Prelude.{ℕ, List, ◌++◌, Option, Some, None, codes, Result, Ok, Err}
use Rattle.std.specs.Net.Text.{socket_text}
use Rattle.std.specs.declared.net.socket_addr.SocketAddr.{SocketAddr}
use Rattle.command_lines.specs.declared.session_fault.SessionFault.{SessionFault}
use Rattle.command_lines.specs.declared.session_fault.SessionFault.TheVariants as faults
use Rattle.robots_check.specs.declared.fault.TextFault.{TextFault}
use Rattle.robots_check.specs.declared.fault.TextFault.TheVariants as text_faults
use Rattle.robots_check.specs.declared.check_outcome.CheckOutcome.{CheckOutcome}
use Rattle.robots_check.specs.declared.check_outcome.CheckOutcome.TheVariants as outcomes
use Rattle.program_commands.specs.declared.ending.Ending.{Ending}
use Rattle.program_commands.specs.declared.ending.Ending.TheVariants as endings
use Rattle.program_commands.specs.declared.message.Message.{Message}
use Rattle.program_commands.specs.declared.message.Message.TheVariants as messages
use Rattle.program_commands.specs.declared.streams.Stream.{Stream}
use Rattle.program_commands.specs.declared.streams.Stream.TheVariants as streams

-- the exit status
abbrev pub exit_status : Ending → ℕ
exit_status endings.Done = 0
exit_status endings.LongLine = 1
exit_status endings.ManyLines = 1
exit_status endings.BadLine = 1
exit_status endings.DeniedUrl = 1
exit_status endings.BadUrl = 2
exit_status endings.NoUrls = 2
exit_status endings.BadFile = 3
exit_status endings.BadWords = 2
exit_status endings.NoMemory = 3
exit_status endings.Device = 3
exit_status (endings.ClosedStream stream) = 3
exit_status endings.ToldDevice = 3
exit_status (endings.NoTlsProgram at) = 3
exit_status endings.EndedEarly = 1
exit_status endings.NoJournal = 3

-- nobody listens at the address of the program that opens TLS
abbrev pub no_tls_text : SocketAddr → List ℕ
no_tls_text at = codes "device: no TLS program at " ++ socket_text at

-- a standard stream's name
abbrev pub stream_name : Stream → List ℕ
stream_name streams.Input = codes "standard input"
stream_name streams.Output = codes "standard output"
stream_name streams.Errors = codes "standard error"

-- a standard stream is closed
abbrev pub closed_text : Stream → List ℕ
closed_text stream = codes "device: " ++ (stream_name stream ++ codes ": closed")

-- the text of a message
abbrev pub message_text : Message → List ℕ
message_text (messages.Words words) = words.now
message_text (messages.Closed stream) = closed_text stream
message_text (messages.NoTlsProgram at) = no_tls_text at

-- the message after the program's name; faults in the arguments or a file are printed by their reader, and the
-- system's reason where a device failed
abbrev pub message_of : Ending → Option (List ℕ)
message_of endings.Done = None
message_of endings.LongLine = Some (codes "line too long")
message_of endings.ManyLines = Some (codes "too many lines")
message_of endings.BadLine = None
message_of endings.DeniedUrl = None
message_of endings.BadUrl = None
message_of endings.NoUrls = Some (codes "no URL in the input")
message_of endings.BadFile = None
message_of endings.BadWords = None
message_of endings.NoMemory = Some (codes "no memory")
message_of endings.Device = Some (codes "device")
message_of (endings.ClosedStream stream) = Some (closed_text stream)
message_of endings.ToldDevice = None
message_of (endings.NoTlsProgram at) = Some (no_tls_text at)
message_of endings.EndedEarly = None
message_of endings.NoJournal = None

-- the program's ending by the result of its session
abbrev pub ending_of : Result (Unit {0}) SessionFault → Ending
ending_of (Ok _) = endings.Done
ending_of (Err faults.LongLine) = endings.LongLine
ending_of (Err faults.Lines) = endings.ManyLines
ending_of (Err faults.Read) = endings.Device
ending_of (Err faults.Write) = endings.Device
ending_of (Err faults.NoMemory) = endings.NoMemory

-- the ending after a fault in a report on a robots text
abbrev pub ending_of_fault : TextFault → Ending
ending_of_fault text_faults.Read = endings.Device
ending_of_fault text_faults.Write = endings.Device
ending_of_fault text_faults.NoMemory = endings.NoMemory

-- the ending by the result of `lines`
abbrev pub ending_of_lines : Result (Unit {0}) TextFault → Ending
ending_of_lines (Ok _) = endings.Done
ending_of_lines (Err fault) = ending_of_fault fault

-- the ending by the result of a check
abbrev pub ending_of_check : Result CheckOutcome TextFault → Ending
ending_of_check (Ok outcomes.NoUrls) = endings.NoUrls
ending_of_check (Ok outcomes.Allowed) = endings.Done
ending_of_check (Ok outcomes.Denied) = endings.DeniedUrl
ending_of_check (Ok outcomes.Unread) = endings.BadUrl
ending_of_check (Err fault) = ending_of_fault fault
