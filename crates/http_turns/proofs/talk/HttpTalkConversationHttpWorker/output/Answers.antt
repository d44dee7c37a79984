-- What is offered are the first octets that wait.
use Rattle.http_turns.proofs.Pending.{begins}
use Rattle.http_turns.proofs.talk.HttpTalkConversationHttpWorker.output.Goals as goal

pub returns : goal.returns
returns g c = begins _ _ c.output.ensures.front
