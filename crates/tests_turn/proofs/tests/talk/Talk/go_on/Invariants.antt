-- What waited waits still, with the answers so far behind it.
use Rattle.turns.specs.Exchanges.{Grows}
use Rattle.tests_turn.proofs.tests.talk.Talk.go_on.Given as goal

abbrev pub invariant-loop : goal.invariant-loop
invariant-loop l = Grows l.fn.self.output.items l.self.output.items
