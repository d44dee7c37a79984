-- The remaining count is that of the remaining lists.
use Rattle.std.proofs.Common.{◌≡◌, ◌+◌, length}
use Rattle.gate_marks.specs.Marks.{starts_of_all}
use Rattle.gate_settlement.proofs.started.has_starts.Given as goal

abbrev pub invariant-loop-rest : goal.invariant-loop-rest
invariant-loop-rest g l = l.left + starts_of_all l.all ≡ l.count + starts_of_all l.rest

abbrev pub decreases-loop-rest : goal.decreases-loop-rest
decreases-loop-rest g l = length l.rest
