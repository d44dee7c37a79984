-- The least of the plain rows, then of the others.
use Rattle.std.proofs.Common.{subst}
use Rattle.robots_verdict.specs.Index.{FindsLeast}
use Rattle.robots_verdict.specs.Search.{IsPlainHit}
use Rattle.robots_verdict.proofs.Joining.{first_in_group}
use Rattle.robots_verdict.proofs.ranked_rows.RankedRows.first_of.Goals as goal

pub returns : goal.returns
returns c =
    let rows = c.args.rows.now.rows in
    let plain = subst (λ path. FindsLeast (IsPlainHit rows c.args.group path) c.least.result) c.octets.ensures c.least.ensures in
    record {
      finds = first_in_group rows c.args.group c.args.path.now c.args.found c.least.result c.lesser-stronger.result c.least-2.result
          plain c.lesser-stronger.ensures c.least-2.ensures.finds;
      stays = c.least-2.ensures.stays;
    }
