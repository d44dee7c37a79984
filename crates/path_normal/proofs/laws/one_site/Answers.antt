-- The law is proved as the lemma `one_site`.
use Rattle.path_normal.proofs.SchemeLemmas as schemes
use Rattle.path_normal.proofs.laws.one_site.Goals as goal

pub returns : goal.returns
returns c = schemes.one_site
