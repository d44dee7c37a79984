-- The law is proved as the lemma `as_decided`.
use Rattle.robots_fetch.proofs.Deciding.{as_decided}
use Rattle.robots_fetch.proofs.laws.steps_as_decided.Goals as goal

pub returns : goal.returns
returns c = as_decided
