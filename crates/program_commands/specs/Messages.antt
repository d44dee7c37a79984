-- What an audit and a replay write, and how the program ends then. Cited by `audit_over`, `replay_over`
-- and `export_over`; docs/FORMATS.md has the lines. Schemes are the first argument.
use Rattle.std.specs.Prelude.{◌≡◌, ◌⊎◌, ℕ, List, Option, Result}
use Rattle.std.specs.Io.KnownBytes.{Appends}
use Rattle.counted_io.specs.Device.{AppendsPrefix, one_more}
use Rattle.path_normal.specs.declared.schemes.Schemes.{Schemes}
use Rattle.gate_core.specs.Gate.{Gate}
use Rattle.crawl_audit.specs.declared.fault.Audited.{Audited}
use Rattle.crawl_audit.specs.declared.fault.AuditFault.TheVariants as audit
use Rattle.crawl_audit.specs.Audit.{IsFault}
use Rattle.crawl_audit.specs.ChainAudit.{IsChainAudited}
use Rattle.history_text.specs.Exports.{present_segment}
use Rattle.history_text.specs.SpellBase.{spell_segment}
use Rattle.command_lines.specs.declared.session_fault.SessionFault.{SessionFault}
use Rattle.command_lines.specs.Limits.{max_lines}
use Rattle.command_lines.specs.Replay.{AnswersLineAmong}
use Rattle.command_lines.specs.Session.{Session}
use Rattle.line_text.specs.Limits.{max_long_line}
use Rattle.program_commands.specs.declared.ending.Ending.{Ending}
use Rattle.program_commands.specs.declared.ending.Ending.TheVariants as endings
use Rattle.program_commands.specs.declared.audit_result.AuditResult.TheVariants.{Right, BadLine}
use Rattle.program_commands.specs.Endings.{ending_of}
use Rattle.program_commands.specs.AuditResult.{audit_result_text}

-- the line was written, and the program ends so; or a device or memory failed
abbrev pub Tells : List ℕ → Ending → Option (List ℕ) → Option (List ℕ) → Ending → Type 0
Tells line ending old new result =
    ((result ≡ ending) × Appends old new line) ⊎ (result ≡ endings.Device) ⊎ (result ≡ endings.NoMemory)

-- a device is blamed only if a write failed, unless the program was to end so
abbrev pub CountsWrite : Ending → ℕ → ℕ → Ending → Type 0
CountsWrite ending old new result =
    (result ≡ ending) ⊎ ((result ≡ endings.Device) × (new ≡ one_more old)) ⊎ (result ≡ endings.NoMemory)

-- the line of an audit without bad lines
abbrev pub TellsRight : Schemes → List ℕ → Option (List ℕ) → Option (List ℕ) → Type 0
TellsRight schemes text old new =
    (audited : Audited)
    × (IsChainAudited schemes text audited × Appends old new (audit_result_text (Right audited.events audited.starts)))

-- the line of an audit that found a bad one
abbrev pub TellsBadLine : Schemes → List ℕ → Option (List ℕ) → Option (List ℕ) → Type 0
TellsBadLine schemes text old new =
    (line : ℕ) × (IsFault schemes text (audit.BadLine line) × Appends old new (audit_result_text (BadLine line)))

-- the output and the ending are the audit's result; or a device or memory failed
abbrev pub TellsAudit : Schemes → List ℕ → Option (List ℕ) → Option (List ℕ) → Ending → Type 0
TellsAudit schemes text old new endings.Done = TellsRight schemes text old new
TellsAudit schemes text old new endings.BadLine = TellsBadLine schemes text old new
TellsAudit schemes text old new endings.Device = Unit {0}
TellsAudit schemes text old new endings.NoMemory = Unit {0}
TellsAudit schemes text old new _ = ⊥

-- a device is blamed only if a read or a write failed
abbrev pub BlamesDevice : ℕ → ℕ → ℕ → ℕ → Ending → Type 0
BlamesDevice reads reads_new writes writes_new endings.Device =
    (reads_new ≡ one_more reads) ⊎ (writes_new ≡ one_more writes)
BlamesDevice reads reads_new writes writes_new _ = Unit {0}

-- a session of the lines read ended so; its replies were written
abbrev pub TellsReplay : Schemes → Gate → Gate → Option (List ℕ) → Option (List ℕ) → Option (List ℕ) → Option (List ℕ)
    → Ending → Type 0
TellsReplay schemes old new input left written written_new ending =
    (end : Result (Unit {0}) SessionFault)
    × (Session (AnswersLineAmong schemes) max_long_line max_lines old new input left written written_new end
    × (ending ≡ ending_of end))

-- the gate's history was written after a session that ended so, as the program does; or a part, and a device failed
abbrev pub WritesPresent : Gate → Option (List ℕ) → Option (List ℕ) → Ending → Ending → Type 0
WritesPresent gate old new ended ending =
    ((ending ≡ ended) × Appends old new (spell_segment (present_segment gate)))
    ⊎ ((ending ≡ endings.Device) × AppendsPrefix old new (spell_segment (present_segment gate)))

-- what is written after a session that ended so: nothing, if a device or memory failed
abbrev pub WritesBehind : Gate → Option (List ℕ) → Option (List ℕ) → Ending → Ending → Type 0
WritesBehind gate old new endings.Device ending = (ending ≡ endings.Device) × (new ≡ old)
WritesBehind gate old new endings.NoMemory ending = (ending ≡ endings.NoMemory) × (new ≡ old)
WritesBehind gate old new ended ending = WritesPresent gate old new ended ending

-- the lines were answered, and the resulting history was written
abbrev pub TellsExport : Schemes → Gate → Gate → Option (List ℕ) → Option (List ℕ) → Option (List ℕ) → Option (List ℕ)
    → Option (List ℕ) → Option (List ℕ) → Ending → Type 0
TellsExport schemes old new input left replies replies_new written written_new ending =
    (ended : Ending)
    × (TellsReplay schemes old new input left replies replies_new ended
    × WritesBehind new written written_new ended ending)
