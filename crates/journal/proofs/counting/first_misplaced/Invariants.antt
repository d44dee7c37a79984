-- The first misplaced one of the remaining files, counted on, is that of all.
use Rattle.std.proofs.Common.{◌≡◌, ◌+◌, length}
use Rattle.journal.specs.Counting.{first_misplaced}
use Rattle.journal.proofs.counting.first_misplaced.Given as goal

abbrev pub invariant-loop-rest : goal.invariant-loop-rest
invariant-loop-rest l = record {
  count : l.part + length l.rest ≡ length l.files;
  same : first_misplaced l.part l.rest l.entries ≡ first_misplaced 0 l.files l.entries;
}

abbrev pub decreases-loop-rest : goal.decreases-loop-rest
decreases-loop-rest l = length l.rest
