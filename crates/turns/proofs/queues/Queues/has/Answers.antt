-- What is marked so stands in no queue.
use Rattle.turns.proofs.Marking.{unlisted}
use Rattle.turns.proofs.queues.Queues.has.Goals as goal

pub returns-clause-unlisted : goal.returns-clause-unlisted
returns-clause-unlisted c = λ holds. unlisted _ _ c.args.mark (c.is_marked.ensures.0 holds) c.requires.0 c.requires.1 c.requires.2
