-- The law is proved as the lemma `done`.
use Rattle.robots_fetch.proofs.Deciding.{done}
use Rattle.robots_fetch.proofs.laws.done_with_the_answer.Goals as goal

pub returns : goal.returns
returns c = done
