-- The law is proved as the lemma `single`.
use Rattle.robots_fetch.proofs.Deciding.{single}
use Rattle.robots_fetch.proofs.laws.one_answer.Goals as goal

pub returns : goal.returns
returns c = single
