-- First places in this list, in others too, or in none.
use Rattle.gate_marks.proofs.Ranging.{have_left, none_at_all, two_left}
use Rattle.gate_marks.proofs.merged_marks.first_of_all.Goals as goal

pub loop-list-preserved : goal.loop-list-preserved
loop-list-preserved g c =
    have_left g.T.MarkList.receipt c.loop-list.first c.first_places.result c.in_ok-first.first c.loop-list.list-index c.args.all.now c.list-item.result
    c.loop-list.invariant c.loop-list-test.true c.list-item.is c.first_places.ensures c.in_ok-first.ensures.some

pub returns-in_err-first-clause-none : goal.returns-in_err-first-clause-none
returns-in_err-first-clause-none g c = none_at_all c.from_residual.result (λ count.
    two_left g.T.MarkList.receipt c.loop-list.first c.first_places.result count c.loop-list.list-index c.args.all.now c.list-item.result
    c.loop-list.invariant c.loop-list-test.true c.list-item.is c.first_places.ensures c.in_err-first.ensures.none.0 c.in_err-first.ensures.none.1)
