-- No list looked at begins with the place; nothing has changed.
use Rattle.std.proofs.Common.{◌≡◌, ◌-◌, ◌≤◌, length, take}
use Rattle.gate_marks.specs.Places.{IsNextOfNone}
use Rattle.gate_marks.proofs.merged_marks.pass_one.Given as goal

abbrev pub invariant-loop-index : goal.invariant-loop-index
invariant-loop-index l = (l.left ≡ l.fn.left) × (l.index ≤ length l.left) × IsNextOfNone l.place (take l.index l.left)

abbrev pub decreases-loop-index : goal.decreases-loop-index
decreases-loop-index l = length l.left - l.index
