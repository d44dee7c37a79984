-- The life of an answer bounds the moments, and the moments bound the seconds of the steady clock.
use Rattle.std.proofs.Common.{arith}
use Rattle.gate_clock.proofs.Steady.{steady}
use Rattle.gate_clock.proofs.laws.an_answer_lasts_a_day.Goals as goal

pub returns : goal.returns
returns c = λ h token url moment epoch ahead before one between other order allowed begun later.
    let seconds = (steady epoch ahead before one between other).seconds order in
    omega (arith, seconds, begun, later, allowed.in_force, allowed.day)
