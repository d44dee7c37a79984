-- The moments are steady by what is ahead.
use Rattle.gate_clock.proofs.Steady.{steady}
use Rattle.gate_clock.proofs.laws.the_clock_is_steady.Goals as goal

pub returns : goal.returns
returns c = steady
