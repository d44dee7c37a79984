-- One record more was read.
use Rattle.std.proofs.Common.{List, subst}
use Rattle.robots_text.specs.Grouped.{Grouped, grouped_left, grouped_records, grouped_seen}
use Rattle.robots_verdict.proofs.Rewriting.{IsRewriting, read_one}
use Rattle.robots_verdict.proofs.rewritten.read.Goals as goal

pub loop-item-preserved : goal.loop-item-preserved
loop-item-preserved c =
    let all = grouped_records c.args.text.now in
    let forms = c.loop-item.rewritten in
    let more = c.take.new.rewritten in
    let reading = subst (λ (left : List Grouped). IsRewriting all left forms.of_lines forms.octets) c.in-Some.ensures.steps c.loop-item.invariant in
    read_one all (grouped_left c.next.new.self) (grouped_seen c.in-Some.item) forms.of_lines more.of_lines forms.octets more.octets reading
    c.in_ok-take.ensures.lines c.in_ok-take.ensures.octets
