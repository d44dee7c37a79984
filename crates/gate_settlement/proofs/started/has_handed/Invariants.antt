-- The remaining count is that of the remaining lists.
use Rattle.std.proofs.Common.{◌≡◌, ◌+◌, length}
use Rattle.gate_marks.specs.Marks.{handed_at_all}
use Rattle.gate_settlement.proofs.started.has_handed.Given as goal

abbrev pub invariant-loop-rest : goal.invariant-loop-rest
invariant-loop-rest g l = l.left + handed_at_all l.all ≡ l.count + handed_at_all l.rest

abbrev pub decreases-loop-rest : goal.decreases-loop-rest
decreases-loop-rest g l = length l.rest
