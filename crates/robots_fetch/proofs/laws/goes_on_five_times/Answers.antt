-- The law is proved as the lemma `ends_soon`.
use Rattle.robots_fetch.proofs.Deciding.{ends_soon}
use Rattle.robots_fetch.proofs.laws.goes_on_five_times.Goals as goal

pub returns : goal.returns
returns c = ends_soon
