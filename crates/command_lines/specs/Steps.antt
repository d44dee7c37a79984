-- What the steps of a session leave.
-- Cited by `Buffers`.
use Rattle.std.specs.Prelude.{List, ℕ, Option}
use Rattle.std.specs.Io.KnownBytes.{Appends}
use Rattle.counted_io.specs.Device.{AppendsPrefix}
use Rattle.command_lines.specs.Input.{FindsPart}
use Rattle.command_lines.specs.declared.session_fault.SessionFault.{SessionFault}
use Rattle.command_lines.specs.declared.session_fault.SessionFault.TheVariants.{LongLine, Lines, Read, Write, NoMemory}

-- no line was read, perhaps a part of one; the pending replies were written, up to a write fault
abbrev pub FailsToReadLine : (behind : Option (List ℕ)) (unread : List ℕ) (left : Option (List ℕ)) (pending : List ℕ)
    (old new : Option (List ℕ)) → SessionFault → Type 0
FailsToReadLine behind unread left pending old new LongLine = ⊥
FailsToReadLine behind unread left pending old new Lines = ⊥
FailsToReadLine behind unread left pending old new Read = FindsPart behind unread left × Appends old new pending
FailsToReadLine behind unread left pending old new Write = FindsPart behind unread left × AppendsPrefix old new pending
FailsToReadLine behind unread left pending old new NoMemory = FindsPart behind unread left × Appends old new pending
