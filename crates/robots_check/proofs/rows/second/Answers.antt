-- Each row is weighed or passed over.
-- `Choosing` says what that keeps.
use Rattle.std.proofs.Common.{sym}
use Rattle.robots_check.specs.Rows.{is_other, row_seen}
use Rattle.robots_check.proofs.Choosing.{best_all, best_more}
use Rattle.robots_check.proofs.rows.second.Goals as goal

pub loop-row-preserved : goal.loop-row-preserved
loop-row-preserved c =
    best_more (is_other c.args.line) row_seen c.args.rows.now c.loop-row.row-index _ c.loop-row.best _ _ c.loop-row-test.true c.loop-row.invariant (sym c.is_other.ensures) c.weighed-best.ensures

pub returns : goal.returns
returns c = best_all (is_other c.args.line) row_seen c.args.rows.now c.loop-row.row-index c.loop-row.best c.loop-row-test.false c.loop-row.invariant
