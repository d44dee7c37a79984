-- Both are read authority by authority.
use Rattle.authority_cache.proofs.Reading as laws
use Rattle.authority_cache.proofs.laws.readers_are_alike.Goals as goal

pub returns : goal.returns
returns c = laws.reads_alike
