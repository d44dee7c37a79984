-- The jobs so far are in the lists.
-- Used by `by_site`.
use Rattle.std.proofs.Common.{◌≡◌, ℕ}
use Rattle.job_line.specs.Sums.{weigh_all, weigh_below}
use Rattle.crawl_workers.specs.Orders.{lists_in}
use Rattle.crawl_workers.proofs.order.by_site.Given as goal

abbrev pub invariant-loop-number : goal.invariant-loop-number
invariant-loop-number l = (weight : ℕ → ℕ) → weigh_all weight (lists_in l.sites.lists.items) ≡ weigh_below weight l.number
