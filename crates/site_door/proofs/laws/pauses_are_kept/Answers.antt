-- The law is proved as the lemma `begins_apart`.
use Rattle.site_door.proofs.Visiting.{begins_apart}
use Rattle.site_door.proofs.laws.pauses_are_kept.Goals as goal

pub returns : goal.returns
returns c = begins_apart
