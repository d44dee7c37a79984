-- The law is proved as the lemma `own_where_read`.
use Rattle.path_normal.proofs.SchemeLemmas.{own_where_read}
use Rattle.path_normal.proofs.laws.reads_where_read.Goals as goal

pub returns : goal.returns
returns c = own_where_read
