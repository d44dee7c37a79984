-- What is legal does not depend on the order of lists.
use Rattle.gate_history.proofs.LegalLaws as legal
use Rattle.gate_history.proofs.laws.order_keeps_legal.Goals as goal

pub returns-clause-behind : goal.returns-clause-behind
returns-clause-behind c = legal.legal_behind

pub returns-clause-ahead : goal.returns-clause-ahead
returns-clause-ahead c = legal.legal_ahead
