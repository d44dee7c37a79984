-- A reply is true by the headline, since the history before it is legal.
-- By `step_told` of `Headlines`.
use Rattle.gate_core.proofs.Headlines.{step_told}
use Rattle.gate_core.proofs.book.Book.answer.Goals as goal

pub returns-clause-told : goal.returns-clause-told
returns-clause-told c = step_told c.args.self.now c.args.call c.make.result c.make.new.self c.history.ensures.legal c.make.ensures
