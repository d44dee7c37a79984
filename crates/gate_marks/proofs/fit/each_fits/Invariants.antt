-- The remaining lists fit exactly if all do.
use Rattle.std.proofs.Common.{◌↔◌, length, map}
use Rattle.gate_marks.specs.Fitting.{EachFits}
use Rattle.gate_marks.proofs.fit.each_fits.Given as goal

abbrev pub invariant-loop-rest : goal.invariant-loop-rest
invariant-loop-rest g l = EachFits l.sealed l.history (map g.T.MarkList.receipt l.rest) ↔ EachFits l.sealed l.history (map g.T.MarkList.receipt l.all)

abbrev pub decreases-loop-rest : goal.decreases-loop-rest
decreases-loop-rest g l = length l.rest
