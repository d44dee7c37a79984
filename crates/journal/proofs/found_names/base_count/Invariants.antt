-- The bases so far and those that remain are all.
use Rattle.std.proofs.Common.{◌≡◌, ◌+◌, ◌≤◌, length}
use Rattle.journal.specs.NamesRead.{base_count}
use Rattle.journal.proofs.found_names.base_count.Given as goal

abbrev pub invariant-loop-rest : goal.invariant-loop-rest
invariant-loop-rest l = record {
  count : l.count + base_count l.rest ≡ base_count l.names;
  within : l.count + length l.rest ≤ length l.names;
}

abbrev pub decreases-loop-rest : goal.decreases-loop-rest
decreases-loop-rest l = length l.rest
