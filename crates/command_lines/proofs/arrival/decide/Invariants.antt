-- The walk over the replies so far goes on.
use Rattle.command_lines.proofs.Walking.{IsUnderWay}
use Rattle.command_lines.proofs.arrival.decide.Given as goal
use Rattle.std.proofs.Common.{length}

abbrev pub invariant-loop-walk : goal.invariant-loop-walk
invariant-loop-walk l = IsUnderWay l.fn.schemes l.fn.authority l.fn.replies l.walk l.replies

abbrev pub decreases-loop-walk : goal.decreases-loop-walk
decreases-loop-walk l = length l.replies
