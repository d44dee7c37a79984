-- The remaining places are sealed exactly if all are.
use Rattle.std.proofs.Common.{◌↔◌, length}
use Rattle.gate_marks.specs.Marks.{AreSealed}
use Rattle.gate_marks.proofs.fit.are_sealed.Given as goal

abbrev pub invariant-loop-rest : goal.invariant-loop-rest
invariant-loop-rest l = AreSealed l.sealed l.rest ↔ AreSealed l.sealed l.places

abbrev pub decreases-loop-rest : goal.decreases-loop-rest
decreases-loop-rest l = length l.rest
