-- The program's own lines. docs/FORMATS.md has them.
-- Cited by `AuditResult::pieces`.
use Rattle.std.specs.Prelude.{ℕ, List, [], ◌∷◌, codes, decimal}
use Rattle.line_text.specs.Pieces.{line_of}
use Rattle.program_commands.specs.declared.audit_result.AuditResult.{AuditResult}
use Rattle.program_commands.specs.declared.audit_result.AuditResult.TheVariants.{Right, BadLine}

-- the result of reading the input's lines
abbrev pub audit_result_text : AuditResult → List ℕ
audit_result_text (Right events starts) =
    line_of (codes "OK" ∷ codes "events" ∷ decimal events ∷ codes "starts" ∷ decimal starts ∷ [])
audit_result_text (BadLine line) = line_of (codes "BAD" ∷ codes "line" ∷ decimal line ∷ [])
