-- The wanted rule line is between the two places.
use Rattle.std.proofs.Common.{◌-◌, map}
use Rattle.robots_check.specs.Forms.{formed_rule}
use Rattle.robots_check.proofs.Placing.{IsBetween}
use Rattle.robots_check.proofs.rules.place_of.Given as goal

abbrev pub invariant-loop-low : goal.invariant-loop-low
invariant-loop-low l = IsBetween (map formed_rule l.rules) l.line l.low l.high

abbrev pub decreases-loop-low : goal.decreases-loop-low
decreases-loop-low l = l.high - l.low
