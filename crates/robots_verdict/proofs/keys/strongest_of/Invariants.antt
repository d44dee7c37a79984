-- What is kept of the keys so far.
use Rattle.robots_verdict.proofs.Strongest.{IsSoFar}
use Rattle.robots_verdict.proofs.keys.strongest_of.Given as goal

abbrev pub invariant-loop-key : goal.invariant-loop-key
invariant-loop-key l = IsSoFar l.rows.rows l.keys l.key-index l.kept.items
