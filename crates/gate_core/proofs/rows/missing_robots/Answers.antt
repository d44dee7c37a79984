-- The start spends the permit.
-- Used by `missing_robots`.
use Rattle.std.proofs.Common.{refl, arith}
use Rattle.path_normal.specs.PageText.{authority_of}
use Rattle.gate_history.specs.Rows.{foobot, page}
use Rattle.gate_core.proofs.rows.missing_robots.Goals as goal

pub returns-clause-start : goal.returns-clause-start
unfolding authority_of
returns-clause-start c = (refl, refl, refl, refl, record { adds = refl; fit = (search arith, (foobot, (page, (refl, refl)))) })
