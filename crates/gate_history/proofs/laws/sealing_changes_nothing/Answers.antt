-- The base after a history says what the history does.
use Rattle.gate_history.proofs.OrderLaws as order
use Rattle.gate_history.proofs.Soundness as sound
use Rattle.gate_history.proofs.laws.sealing_changes_nothing.Goals as goal

pub returns-clause-base : goal.returns-clause-base
returns-clause-base c = sound.leads_to_base

pub returns-clause-says : goal.returns-clause-says
returns-clause-says c = order.seal_says
