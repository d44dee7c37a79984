-- The start spends the permit.
-- Used by `spent_once`.
use Rattle.std.proofs.Common.{refl, arith}
use Rattle.path_normal.specs.PageText.{authority_of}
use Rattle.gate_history.specs.Rows.{foobot, page}
use Rattle.gate_core.proofs.rows.spent_once.Goals as goal

pub returns-clause-own : goal.returns-clause-own
unfolding authority_of
returns-clause-own c = (refl, refl, refl, refl, record { adds = refl; fit = (search arith, (foobot, (page, (refl, refl)))) })
