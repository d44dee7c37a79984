-- Without an answer in force a turn is due.
-- By the lemma `due_none`; with one, by its kind.
use Rattle.page_worker.proofs.InForce.{due_none}
use Rattle.page_worker.proofs.stale.is_due.Goals as goal

pub returns-in-Unknown : goal.returns-in-Unknown
returns-in-Unknown c =
    due_none c.args.closed_for c.args.book.now c.args.authority.now c.args.moment c.args.word c.requires c.in-Unknown.is
