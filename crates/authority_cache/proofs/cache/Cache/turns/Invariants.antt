-- The list has the turns of the sites so far.
use Rattle.std.proofs.Common.{◌≡◌, take}
use Rattle.authority_cache.specs.Lists.{turns_in}
use Rattle.authority_cache.proofs.ListedLaws.{all_of}
use Rattle.authority_cache.proofs.cache.Cache.turns.Given as goal

abbrev pub invariant-loop-index : goal.invariant-loop-index
invariant-loop-index l = l.turns.items ≡ all_of turns_in (take l.index l.self.sites)
