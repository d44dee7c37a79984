-- The counted starts and those of the remaining marks are those of all.
use Rattle.std.proofs.Common.{◌≡◌, ◌+◌, ◌≤◌, length}
use Rattle.gate_marks.specs.Marks.{starts_in}
use Rattle.gate_marks.proofs.mark.starts_among.Given as goal

abbrev pub invariant-loop-rest : goal.invariant-loop-rest
invariant-loop-rest l = (l.count + starts_in l.rest ≡ starts_in l.marks) × (l.count + length l.rest ≤ length l.marks)

abbrev pub decreases-loop-rest : goal.decreases-loop-rest
decreases-loop-rest l = length l.rest
