-- The pushed and the remaining places are those of all marks.
use Rattle.std.proofs.Common.{◌≡◌, ◌+◌, ◌≤◌, ◌++◌, length, map, vec_capacity}
use Rattle.gate_marks.proofs.mark.push_places.Given as goal

abbrev pub invariant-loop-rest : goal.invariant-loop-rest
invariant-loop-rest l =
    (l.places.items ++ map (λ mark. mark.place) l.rest ≡ l.initial.places.items ++ map (λ mark. mark.place) l.marks)
    × (length l.places.items + length l.rest ≤ vec_capacity l.places)

abbrev pub decreases-loop-rest : goal.decreases-loop-rest
decreases-loop-rest l = length l.rest
