-- The start spends the permit.
-- Used by `expiry_at_start`.
use Rattle.std.proofs.Common.{refl, arith}
use Rattle.path_normal.specs.PageText.{authority_of}
use Rattle.gate_history.specs.Rows.{foobot, page}
use Rattle.gate_core.specs.Rows.{other_page}
use Rattle.gate_core.proofs.rows.expiry_at_start.Goals as goal

pub returns-clause-in_force : goal.returns-clause-in_force
unfolding authority_of
returns-clause-in_force c = (refl, refl, refl, refl, record { adds = refl; fit = (search arith, (foobot, (page, (refl, refl)))) })

pub returns-clause-expired : goal.returns-clause-expired
unfolding authority_of
returns-clause-expired c = (refl, (refl, record { adds = refl; fit = (search arith, (foobot, (other_page, (refl, refl)))) }))
