-- The grants of a history cover the numbers that it granted.
use Rattle.gate_history.proofs.SealLaws as seals
use Rattle.gate_history.proofs.Soundness as sound
use Rattle.gate_history.proofs.laws.grants_are_covered.Goals as goal

pub returns-clause-granted : goal.returns-clause-granted
returns-clause-granted c = sound.granted_covered

pub returns-clause-above : goal.returns-clause-above
returns-clause-above c = seals.above_new

pub returns-clause-next : goal.returns-clause-next
returns-clause-next c = seals.next_new
