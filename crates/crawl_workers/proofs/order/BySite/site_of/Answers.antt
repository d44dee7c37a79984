-- One list more, which is empty.
-- Used by `BySite::site_of`.
use Rattle.std.proofs.Common.{ap, arith}
use Rattle.job_line.specs.Sums.{weigh, weigh_all}
use Rattle.crawl_workers.specs.Orders.{lists_in}
use Rattle.crawl_workers.proofs.Ordering.{weigh_all_more}
use Rattle.crawl_workers.proofs.order.BySite.site_of.Goals as goal

pub returns-clause-same : goal.returns-clause-same
returns-clause-same c weight =
    omega (
      arith,
      ap (λ lists. weigh_all weight (lists_in lists)) (c.in_ok-push.ensures {u = tt}).items,
      weigh_all_more weight c.args.self.now.lists.items c.new.result,
      ap (weigh weight) c.new.ensures.items,
    )
