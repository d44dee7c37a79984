-- If nothing was handed out, what is settled is a whole history.
use Rattle.gate_settlement.proofs.Whole.{whole_if_settled}
use Rattle.gate_settlement.proofs.settlement.settle.Goals as goal

pub returns-clause-whole : goal.returns-clause-whole
returns-clause-whole g c = whole_if_settled c.lend-held.result c.args.all.now c.settle_in.result c.book-book.ensures.start c.book-book.ensures.legal c.settle_in.ensures.settles
