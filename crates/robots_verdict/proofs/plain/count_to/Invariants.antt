-- The cut is between the two.
use Rattle.std.proofs.Common.{◌∷◌, ◌-◌}
use Rattle.robots_verdict.proofs.PlainHits.{IsCutWithin}
use Rattle.robots_verdict.proofs.plain.count_to.Given as goal

abbrev pub invariant-loop-low : goal.invariant-loop-low
invariant-loop-low l = IsCutWithin l.rows.rows l.places (l.group ∷ l.path) l.low l.high

abbrev pub decreases-loop-low : goal.decreases-loop-low
decreases-loop-low l = l.high - l.low
