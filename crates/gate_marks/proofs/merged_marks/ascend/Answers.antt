-- The single places ascend and begin after the first ones.
use Rattle.std.proofs.Common.{rules}
use Rattle.gate_marks.proofs.Ranging.{ascend_of, of_ascend}
use Rattle.gate_marks.proofs.merged_marks.ascend.Goals as goal

pub returns-then-begin_from : goal.returns-then-begin_from
returns-then-begin_from g c =
    let r = g.T.MarkList.receipt c.args.list.now in (
      (λ yes. ascend_of r c.first_places.result c.of-kept.result c.first_places.ensures c.of-kept.ensures (c.begin_from.ensures.0 (search rules)) (c.all_ascend.ensures.0 yes)),
      (λ all. c.all_ascend.ensures.1 (of_ascend r c.first_places.result c.of-kept.result c.first_places.ensures c.of-kept.ensures all).1),
    )

pub returns-else-begin_from : goal.returns-else-begin_from
returns-else-begin_from g c =
    let r = g.T.MarkList.receipt c.args.list.now in (
      (λ yes. absurd (search rules)),
      (λ all. c.begin_from.ensures.1 (of_ascend r c.first_places.result c.of-kept.result c.first_places.ensures c.of-kept.ensures all).0),
    )
