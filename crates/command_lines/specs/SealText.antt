-- The reply to SEAL: a number of lines, and the lines; docs/FORMATS.md, replies.
-- Cited by `seal_text` and both kinds of session.
use Rattle.std.specs.Prelude.{ℕ, ◌+◌, ◌-◌, ◌^◌, min, ◌==◌, List, [], ◌∷◌, ◌++◌, Result, Ok, Err, codes, decimal, if◌then◌else◌, length}
use Rattle.gate_history.specs.declared.entry.Entry.{Entry}
use Rattle.gate_history.specs.Base.{Base}
use Rattle.gate_history.specs.Segment.{Sealed}
use Rattle.gate_core.specs.declared.refusal.NoMemory.{NoMemory}
use Rattle.crawl_job.specs.declared.hop.Refusal.TheVariants as refusals
use Rattle.history_text.specs.SpellBase.{spell_segment}
use Rattle.line_text.specs.Pieces.{line_of}
use Rattle.command_lines.specs.RefusalText.{refusal_text}

-- the lines before the entries: the version alone if nothing was sealed before, or the base, with its version, its
-- numbers and its end
abbrev pub lines_before : Base → ℕ
lines_before b =
    if b.entries == 0 then 1
    else length b.standing + length b.in_flight + length b.grants + length b.unspent + length b.running + 3

-- the lines of a segment's text, counted in 64 bits
abbrev pub line_count : Sealed → ℕ
line_count s = min (lines_before s.base + length s.entries) (2 ^ 64 - 1)

-- the line with their number
abbrev pub sealed_line : ℕ → List ℕ
sealed_line count = line_of (codes "SEALED" ∷ decimal count ∷ [])

-- without entries there is no text
abbrev pub handed_entries : List Entry → Sealed → List ℕ
handed_entries [] s = sealed_line 0
handed_entries (e ∷ later) s = sealed_line (line_count s) ++ spell_segment s

-- the number of lines, and the lines
abbrev pub handed_text : Sealed → List ℕ
handed_text s = handed_entries s.entries s

-- the reply
abbrev pub seal_text : Result Sealed NoMemory → List ℕ
seal_text (Ok s) = handed_text s
seal_text (Err _) = refusal_text refusals.NoMemory
