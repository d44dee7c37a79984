-- The names that are read of the remaining ones are those of all.
use Rattle.std.proofs.Common.{◌≡◌, length}
use Rattle.journal.specs.NamesRead.{from_last_but_one}
use Rattle.journal.proofs.found_names.from_last_but_one.Given as goal

abbrev pub invariant-loop-rest : goal.invariant-loop-rest
invariant-loop-rest l = from_last_but_one l.rest ≡ from_last_but_one l.names

abbrev pub decreases-loop-rest : goal.decreases-loop-rest
decreases-loop-rest l = length l.rest
