-- One mark more is below.
use Rattle.std.proofs.Common.{rules}
use Rattle.gate_marks.proofs.Condensing.{below_more}
use Rattle.gate_marks.proofs.mark.count_below.Goals as goal

pub loop-count-preserved : goal.loop-count-preserved
loop-count-preserved c = (search rules, below_more c.args.places c.args.marks.now c.loop-count.count _ c.loop-count-test.true c.if-marks-count.true c.loop-count.invariant.1)
