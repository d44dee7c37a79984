-- What is opened and not closed is open.
use Rattle.gate_history.proofs.LeftOpenLaws as open_laws
use Rattle.gate_history.proofs.SealLaws as seals
use Rattle.gate_history.proofs.laws.no_later_entry_closes.Goals as goal

pub returns-clause-one_more : goal.returns-clause-one_more
returns-clause-one_more c = seals.one_more

pub returns-clause-left_open : goal.returns-clause-left_open
returns-clause-left_open c = open_laws.no_later_entry_closes
