-- The parents so far.
use Rattle.std.proofs.Common.{◌<◌, All}
use Rattle.robots_verdict.specs.Search.{AreParents}
use Rattle.robots_verdict.proofs.plain.parents_of.Given as goal

abbrev pub invariant-loop-index : goal.invariant-loop-index
invariant-loop-index l = All (λ child. child.0 < l.index) l.parents × AreParents l.rows.rows l.places l.parents l.index
