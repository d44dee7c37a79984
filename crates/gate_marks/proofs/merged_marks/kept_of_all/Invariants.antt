-- The places of the lists looked at and of the remaining ones are all places.
use Rattle.std.proofs.Common.{◌≡◌, ◌+◌, ◌≤◌, ◌++◌, length, map, vec_capacity}
use Rattle.gate_marks.specs.Marks.{kept_places}
use Rattle.gate_marks.proofs.merged_marks.kept_of_all.Given as goal

abbrev pub invariant-loop-rest : goal.invariant-loop-rest
invariant-loop-rest g l =
    (l.left.items ++ map kept_places (map g.T.MarkList.receipt l.rest) ≡ map kept_places (map g.T.MarkList.receipt l.all))
    × (length l.left.items + length l.rest ≤ vec_capacity l.left)

abbrev pub decreases-loop-rest : goal.decreases-loop-rest
decreases-loop-rest g l = length l.rest
