-- The common prefix so far, and that of the rests.
use Rattle.std.proofs.Common.{◌≡◌, ◌+◌, length}
use Rattle.robots_verdict.specs.Search.{common}
use Rattle.robots_verdict.proofs.plain.common.Given as goal

abbrev pub invariant-loop-first : goal.invariant-loop-first
invariant-loop-first l = (l.count + common l.left l.right ≡ common l.one l.other) × (l.count + length l.left ≡ length l.one)

abbrev pub decreases-loop-first : goal.decreases-loop-first
decreases-loop-first l = length l.left
