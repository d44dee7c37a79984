-- The text that `lines` writes, as docs/FORMATS.md has it: one line for each line of a robots text.
-- Used by `lines` and a line's pieces.
use Rattle.std.specs.Prelude.{ℕ, List, ◌++◌, codes, decimal, flat_map}
use Rattle.line_text.specs.RuleWords.{rule_word, value_text}
use Rattle.robots_text.specs.Lines.{kept}
use Rattle.robots_text.specs.Records.{everybody, token, nobody, Record, agent, rule, other, Numbered, numbered_records}
use Rattle.robots_text.specs.Token.{lower_case}

-- the words of a record
abbrev pub record_text : Record → List ℕ
record_text (agent everybody) = codes "agent all"
record_text (agent (token name)) = codes "agent name " ++ lower_case name
record_text (agent nobody) = codes "agent none"
record_text (rule kind value) = rule_word kind ++ value_text value
record_text other = codes "other"

-- a record with a number
abbrev pub numbered : ℕ → Record → Numbered
numbered number said = record { line = number; kind = said }

-- an output line: a number, a space and the record's words
abbrev pub numbered_text : Numbered → List ℕ
numbered_text item = decimal item.line ++ (codes " " ++ (record_text item.kind ++ codes "\n"))

-- the output for a body: a line for each record kept of it
abbrev pub lines_text : List ℕ → List ℕ
lines_text body = flat_map numbered_text (numbered_records (kept body))
