-- The law is proved as the lemma `named_where_read`.
use Rattle.path_normal.proofs.SchemeLemmas as schemes
use Rattle.path_normal.proofs.laws.named_where_read.Goals as goal

pub returns : goal.returns
returns c = schemes.named_where_read
