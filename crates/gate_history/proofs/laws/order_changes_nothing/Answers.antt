-- The order of lists changes nothing.
use Rattle.gate_history.proofs.OrderLaws as order
use Rattle.gate_history.proofs.LegalLaws as legal
use Rattle.gate_history.proofs.Reordering as reordering
use Rattle.gate_history.proofs.laws.order_changes_nothing.Goals as goal

pub returns-clause-keys : goal.returns-clause-keys
returns-clause-keys c = reordering.keys_say

pub returns-clause-reordered : goal.returns-clause-reordered
returns-clause-reordered c = reordering.reordering_says

pub returns-clause-base : goal.returns-clause-base
returns-clause-base c = legal.says_base

pub returns-clause-goes_on : goal.returns-clause-goes_on
returns-clause-goes_on c = order.go_on

pub returns-clause-answers : goal.returns-clause-answers
returns-clause-answers c = order.answer_alike

pub returns-clause-decides : goal.returns-clause-decides
returns-clause-decides c = legal.decide_alike
