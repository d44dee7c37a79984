-- The law is proved as the lemma `scheme_parts`.
use Rattle.path_normal.proofs.SchemeLemmas.{scheme_parts}
use Rattle.path_normal.proofs.laws.schemes_part_authorities.Goals as goal

pub returns : goal.returns
returns c = scheme_parts
