-- A legal history is sound.
use Rattle.gate_history.proofs.KnownLaws as known
use Rattle.gate_history.proofs.Soundness as sound
use Rattle.gate_history.proofs.laws.each_stands_once.Goals as goal

pub returns-clause-once : goal.returns-clause-once
returns-clause-once c = sound.stands_once

pub returns-clause-lives : goal.returns-clause-lives
returns-clause-lives c = known.lives_bounded
