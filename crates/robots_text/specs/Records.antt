-- Records: the meaning of a line of a robots text, by name and value.
-- RFC 9309, section 2.2.
use Rattle.std.specs.Prelude.{ℕ, Bool, false, ◌+◌, ◌&&◌, ◌||◌, ◌==◌, not, List, [], ◌∷◌, map, take, drop, Option, Some, None, codes, if◌then◌else◌}
use Rattle.std.specs.List.{list_all, position, before_first}
use Rattle.robots_text.specs.declared.record.Agent.{Agent}
use Rattle.robots_text.specs.declared.record.Agent.TheVariants as agents
use Rattle.robots_text.specs.declared.record.RecordKind.{RecordKind}
use Rattle.robots_text.specs.declared.record.RecordKind.TheVariants as kinds
use Rattle.robots_text.specs.declared.record.RecordLine.{RecordLine}
use Rattle.robots_text.specs.declared.record.RuleKind.{RuleKind}
use Rattle.robots_text.specs.declared.record.RuleKind.TheVariants.{Allow, Disallow}
use Rattle.robots_text.specs.Lines.{lines_of}
use Rattle.robots_text.specs.Token.{is_token_octet}
use Rattle.robots_text.specs.Words.{is_same_word}
use Rattle.robots_text.specs.Octets.{colon, number_sign, space, star, tab}

-- the crawlers that a user-agent line names: everybody, one token, or nobody
pub data Named : Type 0 where
  everybody : Named
  token : List ℕ → Named
  nobody : Named

-- the meaning of a line: a user-agent line, a rule with its value, or anything else
pub data Record : Type 0 where
  agent : Named → Record
  rule : RuleKind → List ℕ → Record
  other : Record

-- a record with its line number
pub record Numbered : Type 0 where
  pub line : ℕ
  pub kind : Record

-- a space or a tab
abbrev pub is_blank : ℕ → Bool
is_blank octet = octet == space || octet == tab

-- the octets without leading blanks
abbrev pub without_leading : List ℕ → List ℕ
without_leading [] = []
without_leading (octet ∷ octets) = if is_blank octet then without_leading octets else octet ∷ octets

-- the octets without trailing blanks
abbrev pub without_trailing : List ℕ → List ℕ
without_trailing [] = []
without_trailing (octet ∷ octets) =
    if list_all is_blank (octet ∷ octets) then [] else octet ∷ without_trailing octets

-- the octets without surrounding blanks
abbrev pub trimmed : List ℕ → List ℕ
trimmed octets = without_trailing (without_leading octets)

-- the value is `*`, alone or before a blank
abbrev pub is_everybody : List ℕ → Bool
is_everybody [] = false
is_everybody (octet ∷ []) = octet == star
is_everybody (octet ∷ next ∷ octets) = octet == star && is_blank next

-- the octet is no token octet
abbrev pub ends_token : ℕ → Bool
ends_token octet = not (is_token_octet octet)

-- token octets name a token, and none name nobody
abbrev pub named_by : List ℕ → Named
named_by [] = nobody
named_by (octet ∷ octets) = token (octet ∷ octets)

-- the crawlers by a user-agent line's value: `*`, or its longest prefix of token octets
abbrev pub named : List ℕ → Named
named value = if is_everybody value then everybody else named_by (before_first ends_token value)

-- the record of a name and a value
abbrev pub record_named : List ℕ → List ℕ → Record
record_named name value =
    if is_same_word name (codes "user-agent") then agent (named value)
    else if is_same_word name (codes "allow") then rule Allow value
    else if is_same_word name (codes "disallow") then rule Disallow value
    else other

-- the record of a text with its first ":" at this place: name before, value after
abbrev pub record_at : Option ℕ → List ℕ → Record
record_at None text = other
record_at (Some place) text = record_named (trimmed (take place text)) (trimmed (drop (place + 1) text))

-- the octet ends a name
abbrev pub is_colon : ℕ → Bool
is_colon octet = octet == colon

-- the octet begins a comment
abbrev pub is_number_sign : ℕ → Bool
is_number_sign octet = octet == number_sign

-- the record of an uncommented text
abbrev pub record_in : List ℕ → Record
record_in text = record_at (position is_colon text) text

-- the record of a line, up to its first "#"
abbrev pub record_of : List ℕ → Record
record_of line = record_in (before_first is_number_sign line)

-- a text's records, one for each line
abbrev pub records_of : List ℕ → List Record
records_of text = map record_of (lines_of text)

-- the records, numbered from a number on
abbrev pub numbered_from : ℕ → List Record → List Numbered
numbered_from number [] = []
numbered_from number (first ∷ records) =
    record { line = number; kind = first } ∷ numbered_from (number + 1) records

-- a text's records, numbered from 1
abbrev pub numbered_records : List ℕ → List Numbered
numbered_records text = numbered_from 1 (records_of text)

-- an agent, as seen
abbrev pub agent_seen : Agent → Named
agent_seen agents.All = everybody
agent_seen (agents.Name octets) = token octets.now
agent_seen agents.Nobody = nobody

-- a kind, as seen
abbrev pub kind_seen : RecordKind → Record
kind_seen (kinds.Agent who) = agent (agent_seen who)
kind_seen (kinds.Rule verb value) = rule verb value.now
kind_seen kinds.Other = other

-- a record line, as seen
abbrev pub line_seen : RecordLine → Numbered
line_seen item = record { line = item.line; kind = kind_seen item.kind }
