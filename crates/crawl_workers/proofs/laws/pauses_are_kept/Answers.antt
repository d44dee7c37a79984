-- The law is proved as the lemma `begins_are_paced`.
use Rattle.crawl_workers.proofs.Pausing.{begins_are_paced}
use Rattle.crawl_workers.proofs.laws.pauses_are_kept.Goals as goal

pub returns : goal.returns
returns c = begins_are_paced
