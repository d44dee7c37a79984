-- The list has the answers of the sites so far.
use Rattle.std.proofs.Common.{◌≡◌, take}
use Rattle.authority_cache.specs.Lists.{answers_in}
use Rattle.authority_cache.proofs.ListedLaws.{all_of}
use Rattle.authority_cache.proofs.cache.Cache.standing_answers.Given as goal

abbrev pub invariant-loop-index : goal.invariant-loop-index
invariant-loop-index l = l.answers.items ≡ all_of answers_in (take l.index l.self.sites)
