-- All prefixes of the path are in the remaining chain.
use Rattle.std.proofs.Common.{◌∷◌, ◌-◌}
use Rattle.robots_verdict.specs.Search.{key_at}
use Rattle.robots_verdict.proofs.Chains.{IsNear}
use Rattle.robots_verdict.proofs.plain.last_begun.Given as goal

abbrev pub invariant-loop-last : goal.invariant-loop-last
invariant-loop-last l = IsNear l.rows.rows l.places l.count (l.group ∷ l.path) (key_at l.rows.rows l.places (l.count - 1)) l.last

abbrev pub decreases-loop-last : goal.decreases-loop-last
decreases-loop-last l = l.last
