-- Nothing is outstanding between two rounds.
use Rattle.std.proofs.Common.{◌≡◌}
use Rattle.gate_lock.specs.Desks.{out_of}
use Rattle.tests_gate.proofs.tests.desk_calls.rounds.Given as goal

abbrev pub invariant-loop : goal.invariant-loop
invariant-loop g l = out_of l.desk ≡ 0
