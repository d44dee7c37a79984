-- The fields kept so far, and then those that are kept of the rest, are those of all fields.
use Rattle.std.proofs.Common.{◌≡◌, ◌++◌, length}
use Rattle.http_wire.specs.Kept.{kept_of, kept_pairs}
use Rattle.http_wire.specs.Left.{pairs}
use Rattle.http_wire.proofs.kept_fields.kept_of.Given as goal

abbrev pub invariant-loop-rest : goal.invariant-loop-rest
invariant-loop-rest l = kept_pairs l.kept.items ++ kept_of (pairs l.rest) ≡ kept_of (pairs l.fn.fields)

abbrev pub decreases-loop-rest : goal.decreases-loop-rest
decreases-loop-rest l = length l.rest
