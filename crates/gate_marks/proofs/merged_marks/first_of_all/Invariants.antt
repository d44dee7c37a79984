-- Of the lists looked at, at most one has first places.
use Rattle.std.proofs.Common.{drop, map}
use Rattle.gate_marks.proofs.Ranging.{HaveFirst}
use Rattle.gate_marks.proofs.merged_marks.first_of_all.Given as goal

abbrev pub invariant-loop-list : goal.invariant-loop-list
invariant-loop-list g l = HaveFirst l.first (map g.T.MarkList.receipt l.all) (map g.T.MarkList.receipt (drop l.list-index l.all))
