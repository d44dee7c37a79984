-- What is found is what is known.
use Rattle.authority_cache.proofs.cache.Cache.in_flight.Goals as goal

pub returns : goal.returns
returns c = c.find.ensures.fetching
