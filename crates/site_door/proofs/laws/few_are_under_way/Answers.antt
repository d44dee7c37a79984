-- The law is proved as the lemma `few_under_way`.
use Rattle.site_door.proofs.Visiting.{few_under_way}
use Rattle.site_door.proofs.laws.few_are_under_way.Goals as goal

pub returns : goal.returns
returns c = few_under_way
