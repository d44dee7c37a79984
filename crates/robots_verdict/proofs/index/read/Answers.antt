-- One record more was read.
use Rattle.std.proofs.Common.{List, map, subst, true}
use Rattle.robots_text.specs.Grouped.{Grouped, grouped_left, grouped_records, grouped_seen}
use Rattle.robots_text.specs.Records.{numbered_records}
use Rattle.robots_text.proofs.CallerLemmas.{numbered_stands}
use Rattle.robots_verdict.specs.Heads.{name_seen}
use Rattle.robots_verdict.proofs.Readings.{IsReading, next_stands, read_one}
use Rattle.robots_verdict.proofs.index.read.Goals as goal

pub take-requires-clause-stands : goal.take-requires-clause-stands
take-requires-clause-stands c =
    let text = c.args.normal.now in
    let all = grouped_records text in
    let rows = c.loop-item.rows in
    let named = map name_seen c.loop-item.names.names.items in
    let everybody = c.loop-item.names.everybody.items in
    let first = grouped_seen c.in-Some.item in
    let left = grouped_left c.next.new.self in
    let reading = subst (λ (left : List Grouped). IsReading all left rows.rows rows.octets named everybody) c.in-Some.ensures.steps c.loop-item.invariant in
    numbered_stands 0 true (numbered_records text) first (next_stands all left first rows.rows rows.octets named everybody reading)

pub loop-item-preserved : goal.loop-item-preserved
loop-item-preserved c =
    let all = grouped_records c.args.normal.now in
    let rows = c.loop-item.rows in
    let named = map name_seen c.loop-item.names.names.items in
    let everybody = c.loop-item.names.everybody.items in
    let reading = subst (λ (left : List Grouped). IsReading all left rows.rows rows.octets named everybody) c.in-Some.ensures.steps c.loop-item.invariant in
    read_one all (grouped_left c.next.new.self) (grouped_seen c.in-Some.item) rows.rows c.take.new.rows.rows rows.octets c.take.new.rows.octets named _ everybody _ reading
    c.in_ok-take.ensures.rows c.in_ok-take.ensures.octets c.in_ok-take.ensures.names.0 c.in_ok-take.ensures.names.1
