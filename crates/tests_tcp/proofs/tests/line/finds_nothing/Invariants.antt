-- The seat stays one of the line's.
-- Used by `finds_nothing`.
use Rattle.std.proofs.Common.{◌≡◌}
use Rattle.tests_tcp.proofs.tests.line.finds_nothing.Given as goal

abbrev pub invariant-loop-n : goal.invariant-loop-n
invariant-loop-n l = l.seat.line ≡ l.initial.seat.line
