-- Records with their group's number: the line of its first user-agent line. The law `same_group` says what it means.
-- RFC 9309, section 2.2.1.
use Rattle.std.specs.Prelude.{ℕ, ◌+◌, ◌≤◌, Bool, true, false, List, [], ◌∷◌, length, if◌then◌else◌}
use Rattle.robots_text.specs.declared.grouped.GroupedRecord.{GroupedRecord}
use Rattle.robots_text.specs.declared.grouped.GroupedRecords.{GroupedRecords}
use Rattle.robots_text.specs.Left.{records_left}
use Rattle.robots_text.specs.Records.{Named, everybody, token, nobody, Record, agent, rule, other, Numbered, kind_seen, numbered_records}

-- a record with its line and group
pub record Grouped : Type 0 where
  pub group : ℕ
  pub line : ℕ
  pub kind : Record

-- the record with its line
abbrev pub numbered_of : Grouped → Numbered
numbered_of grouped = record { line = grouped.line; kind = grouped.kind }

-- a record's group: the first user-agent line, and each one after a rule line, begins one
abbrev pub group_at : ℕ → Bool → ℕ → Record → ℕ
group_at group begins line (agent who) = if begins then line else group
group_at group begins line (rule kind value) = group
group_at group begins line other = group

-- whether a user-agent line after the record would begin a group
abbrev pub begins_behind : Bool → Record → Bool
begins_behind begins (agent who) = false
begins_behind begins (rule kind value) = true
begins_behind begins other = begins

-- the records after those of a group
abbrev pub grouped_from : ℕ → Bool → List Numbered → List Grouped
grouped_from group begins [] = []
grouped_from group begins (first ∷ lines) =
    record { group = group_at group begins first.line first.kind; line = first.line; kind = first.kind }
    ∷ grouped_from (group_at group begins first.line first.kind) (begins_behind begins first.kind) lines

-- the records of a text with their groups; those before the first group are in group 0
abbrev pub grouped_records : List ℕ → List Grouped
grouped_records text = grouped_from 0 true (numbered_records text)

-- a grouped record, as seen
abbrev pub grouped_seen : GroupedRecord → Grouped
grouped_seen item = record { group = item.group; line = item.line; kind = kind_seen item.kind }

-- the remaining records
abbrev pub grouped_left : GroupedRecords → List Grouped
grouped_left walk = grouped_from walk.group walk.begins (records_left walk.records)

-- its line and group are at most this
abbrev pub IsWithin : ℕ → Grouped → Type 0
IsWithin most grouped = (grouped.line ≤ most) × (grouped.group ≤ grouped.line)

-- the name's length in octets
abbrev pub name_octets : Named → ℕ
name_octets everybody = 0
name_octets (token name) = length name
name_octets nobody = 0

-- how many octets of names or patterns the record has
abbrev pub value_octets : Record → ℕ
value_octets (agent who) = name_octets who
value_octets (rule kind value) = length value
value_octets other = 0

-- the octets of all records
abbrev pub values_octets : List Grouped → ℕ
values_octets [] = 0
values_octets (first ∷ lines) = value_octets first.kind + values_octets lines
