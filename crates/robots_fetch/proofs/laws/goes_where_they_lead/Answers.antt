-- The law is proved as the lemma `leads`.
use Rattle.robots_fetch.proofs.Deciding.{leads}
use Rattle.robots_fetch.proofs.laws.goes_where_they_lead.Goals as goal

pub returns : goal.returns
returns c = leads
