-- The first marks, as many as were looked at, are below.
use Rattle.std.proofs.Common.{◌-◌, ◌≤◌, length, map, take}
use Rattle.gate_marks.specs.Marks.{AreSealed}
use Rattle.gate_marks.proofs.mark.count_below.Given as goal

abbrev pub invariant-loop-count : goal.invariant-loop-count
invariant-loop-count l = (l.count ≤ length l.marks) × AreSealed l.places (map (λ mark. mark.place) (take l.count l.marks))

abbrev pub decreases-loop-count : goal.decreases-loop-count
decreases-loop-count l = length l.marks - l.count
