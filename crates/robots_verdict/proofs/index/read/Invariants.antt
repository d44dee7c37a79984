-- What was read and what is left make up the text.
use Rattle.std.proofs.Common.{map}
use Rattle.robots_text.specs.Grouped.{grouped_left, grouped_records}
use Rattle.robots_verdict.specs.Heads.{name_seen}
use Rattle.robots_verdict.proofs.Readings.{IsReading}
use Rattle.robots_verdict.proofs.index.read.Given as goal

abbrev pub invariant-loop-item : goal.invariant-loop-item
invariant-loop-item l =
    IsReading (grouped_records l.normal) (grouped_left l.records) l.rows.rows l.rows.octets (map name_seen l.names.names.items) l.names.everybody.items
