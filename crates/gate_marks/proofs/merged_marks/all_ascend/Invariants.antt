-- The remaining places ascend exactly if all do.
use Rattle.std.proofs.Common.{◌↔◌, length}
use Rattle.gate_marks.specs.Places.{Ascend}
use Rattle.gate_marks.proofs.merged_marks.all_ascend.Given as goal

abbrev pub invariant-loop-place : goal.invariant-loop-place
invariant-loop-place l = Ascend l.rest ↔ Ascend l.fn.places

abbrev pub decreases-loop-place : goal.decreases-loop-place
decreases-loop-place l = length l.rest
