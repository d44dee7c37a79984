-- The rows of a policy as kept: each points to the octets of its pattern.
-- Cited by `Rows`.
use Rattle.std.specs.Prelude.{ℕ, ◌+◌, ◌≤◌, Bool, List, [], length, map, take, drop, slice_index_or}
use Rattle.robots_text.specs.declared.record.RuleKind.TheVariants.{Allow}
use Rattle.robots_verdict.specs.declared.rule_row.RuleRow.{RuleRow}
use Rattle.robots_verdict.specs.declared.weight.Weight.{Weight}
use Rattle.robots_verdict.specs.Placed.{Placed}
use Rattle.robots_verdict.specs.Weights.{is_above}

-- a part of the octets
abbrev pub part : List ℕ → ℕ → ℕ → List ℕ
part octets start len = take len (drop start octets)

-- a kept row, as seen
abbrev pub row_seen : List ℕ → RuleRow → Placed
row_seen octets row =
    record { group = row.group; line = row.line; kind = row.kind; form = part octets row.start row.len }

-- all rows
abbrev pub rows_seen : List ℕ → List RuleRow → List Placed
rows_seen octets rows = map (row_seen octets) rows

-- the octets of the row's pattern are there
abbrev pub IsThere : List ℕ → RuleRow → Type 0
IsThere octets row = row.start + row.len ≤ length octets

-- a row's weight
abbrev pub weight_at : Placed → Weight
weight_at placed = record { octets = length placed.form; kind = placed.kind; line = placed.line }

-- one row is stronger than the other
abbrev pub is_row_above : Placed → Placed → Bool
is_row_above one other = is_above (weight_at one) (weight_at other)

-- a kept row's weight
abbrev pub weight_kept : RuleRow → Weight
weight_kept row = record { octets = row.len; kind = row.kind; line = row.line }

-- a row for places past the end
abbrev pub no_row : Placed
no_row = record { group = 0; line = 0; kind = Allow; form = [] }

-- the row at a place
abbrev pub row_at : List Placed → ℕ → Placed
row_at rows place = slice_index_or rows place no_row
