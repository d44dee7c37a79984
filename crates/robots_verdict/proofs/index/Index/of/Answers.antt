-- Sorting keeps the number of rows.
use Rattle.std.proofs.Common.{ap, arith, length}
use Rattle.robots_verdict.specs.Placed.{Table}
use Rattle.robots_verdict.proofs.index.Index.of.Goals as goal

pub of-requires : goal.of-requires
of-requires c = omega (arith, c.sort.ensures.len, ap (λ (t : Table). length t.rows) c.fit.ensures, c.in_ok-rows.ensures.few)
