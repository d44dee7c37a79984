-- The law is proved as the lemma `once`.
use Rattle.robots_fetch.proofs.Deciding.{once}
use Rattle.robots_fetch.proofs.laws.decided_once.Goals as goal

pub returns : goal.returns
returns c = once
