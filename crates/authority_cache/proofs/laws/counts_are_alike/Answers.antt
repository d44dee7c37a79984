-- Both are counted authority by authority.
use Rattle.authority_cache.proofs.Telling as laws
use Rattle.authority_cache.proofs.laws.counts_are_alike.Goals as goal

pub returns : goal.returns
returns c = laws.counts_alike
