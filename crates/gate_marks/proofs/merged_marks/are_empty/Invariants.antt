-- The remaining lists are empty exactly if all are.
use Rattle.std.proofs.Common.{◌↔◌, length}
use Rattle.gate_marks.specs.Places.{AllEmpty}
use Rattle.gate_marks.proofs.merged_marks.are_empty.Given as goal

abbrev pub invariant-loop-rest : goal.invariant-loop-rest
invariant-loop-rest l = AllEmpty l.rest ↔ AllEmpty l.left

abbrev pub decreases-loop-rest : goal.decreases-loop-rest
decreases-loop-rest l = length l.rest
