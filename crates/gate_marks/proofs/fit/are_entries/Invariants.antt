-- The remaining marks are entries exactly if all are.
use Rattle.std.proofs.Common.{◌↔◌, length}
use Rattle.gate_marks.specs.Fitting.{AreEntries}
use Rattle.gate_marks.proofs.fit.are_entries.Given as goal

abbrev pub invariant-loop-rest : goal.invariant-loop-rest
invariant-loop-rest l = AreEntries l.sealed l.history l.rest ↔ AreEntries l.sealed l.history l.marks

abbrev pub decreases-loop-rest : goal.decreases-loop-rest
decreases-loop-rest l = length l.rest
