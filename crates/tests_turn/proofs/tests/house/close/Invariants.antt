-- One conversation after the other is closed.
use Rattle.std.specs.Prelude.{vec_len}
use Rattle.tests_turn.proofs.tests.house.close.Given as goal

abbrev pub decreases-loop-talk : goal.decreases-loop-talk
decreases-loop-talk l = vec_len l.talks
