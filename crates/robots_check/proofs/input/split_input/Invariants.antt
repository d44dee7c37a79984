-- No lines of URLs begin before the place, and a line begins there.
use Rattle.std.proofs.Common.{◌-◌, length}
use Rattle.robots_check.proofs.Cutting.{IsPassed}
use Rattle.robots_check.proofs.input.split_input.Given as goal

abbrev pub invariant-loop-place : goal.invariant-loop-place
invariant-loop-place l = IsPassed l.input l.place

abbrev pub decreases-loop-place : goal.decreases-loop-place
decreases-loop-place l = length l.input - l.place
