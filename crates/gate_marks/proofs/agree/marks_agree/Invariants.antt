-- The remaining marks agree exactly if all do.
use Rattle.std.proofs.Common.{◌↔◌, length}
use Rattle.gate_marks.specs.Fitting.{Agrees}
use Rattle.gate_marks.proofs.agree.marks_agree.Given as goal

abbrev pub invariant-loop-rest : goal.invariant-loop-rest
invariant-loop-rest l = Agrees l.segment l.rest ↔ Agrees l.segment l.marks

abbrev pub decreases-loop-rest : goal.decreases-loop-rest
decreases-loop-rest l = length l.rest
