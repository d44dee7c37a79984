-- None of the octets so far is a wildcard.
use Rattle.memchr.specs.Find.{Nowhere, Passes, is_byte}
use Rattle.path_normal.specs.Octets.{star}
use Rattle.path_pattern.proofs.literals.star_place.Given as goal

abbrev pub invariant-loop-index : goal.invariant-loop-index
invariant-loop-index l = Nowhere (Passes (is_byte star) l.pattern) 0 l.index
