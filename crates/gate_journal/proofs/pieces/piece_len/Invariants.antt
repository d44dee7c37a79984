-- A piece has an entry, and no more than there are.
use Rattle.std.proofs.Common.{length, ◌-◌, ◌≤◌}
use Rattle.gate_journal.proofs.pieces.piece_len.Given as goal

abbrev pub invariant-loop-count : goal.invariant-loop-count
invariant-loop-count l = record {
  some : 1 ≤ l.count;
  within : l.count ≤ length l.entries;
}

abbrev pub decreases-loop-count : goal.decreases-loop-count
decreases-loop-count l = length l.entries - l.count
