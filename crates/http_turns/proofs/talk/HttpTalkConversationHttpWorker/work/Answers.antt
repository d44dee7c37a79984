-- Nothing waited before.
use Rattle.http_turns.proofs.Pending.{fails, grows_of_none}
use Rattle.http_turns.proofs.talk.HttpTalkConversationHttpWorker.work.Goals as goal

pub returns-then-ne-clause-pending : goal.returns-then-ne-clause-pending
returns-then-ne-clause-pending g c = grows_of_none _ _ (fails _ _ c.if-wants_write.false c.wants_write.ensures)

pub returns-else-ne-clause-pending : goal.returns-else-ne-clause-pending
returns-else-ne-clause-pending g c = grows_of_none _ _ (fails _ _ c.if-wants_write.false c.wants_write.ensures)
