-- The line's place in the remaining texts, counted on, is that in all.
use Rattle.std.proofs.Common.{◌≡◌, ◌+◌, length}
use Rattle.journal.specs.Joining.{own_line}
use Rattle.journal.proofs.joined.own_line.Given as goal

abbrev pub invariant-loop-rest : goal.invariant-loop-rest
invariant-loop-rest l = record {
  count : l.part + length l.rest ≡ length l.reads;
  same : own_line l.part l.rest l.line ≡ own_line 0 l.reads l.fn.line;
}

abbrev pub decreases-loop-rest : goal.decreases-loop-rest
decreases-loop-rest l = length l.rest
