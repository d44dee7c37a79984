-- Known authorities are counted by their names.
use Rattle.gate_history.proofs.KnownLaws as known
use Rattle.gate_history.proofs.laws.known_are_counted.Goals as goal

pub returns-clause-names : goal.returns-clause-names
returns-clause-names c = known.names_known

pub returns-clause-counted : goal.returns-clause-counted
returns-clause-counted c = known.known_counted
