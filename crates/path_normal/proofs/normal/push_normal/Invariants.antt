-- What was appended and the rest's normal form make the normal form.
use Rattle.std.proofs.Common.{◌≡◌, ◌++◌, ◌≤◌, length}
use Rattle.std.specs.Prelude.{vec_len}
use Rattle.path_normal.specs.Normal.{normal}
use Rattle.path_normal.proofs.normal.push_normal.Given as goal

abbrev pub invariant-loop-unit : goal.invariant-loop-unit
invariant-loop-unit l = (l.fn.form.items ++ normal l.role l.fn.text ≡ l.form.items ++ normal l.role l.rest) × (vec_len l.fn.form ≤ vec_len l.form)

abbrev pub decreases-loop-unit : goal.decreases-loop-unit
decreases-loop-unit l = length l.rest
