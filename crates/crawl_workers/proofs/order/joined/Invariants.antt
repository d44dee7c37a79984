-- The numbers so far are those of the lists so far.
-- Used by `joined`.
use Rattle.std.proofs.Common.{◌≡◌, ◌+◌, ℕ, drop}
use Rattle.job_line.specs.Sums.{weigh, weigh_all}
use Rattle.crawl_workers.specs.Orders.{lists_in}
use Rattle.crawl_workers.proofs.order.joined.Given as goal

abbrev pub invariant-loop-list : goal.invariant-loop-list
invariant-loop-list l = (weight : ℕ → ℕ) → weigh weight l.numbers.items + weigh_all weight (lists_in (drop l.list-index l.lists)) ≡ weigh_all weight (lists_in l.lists)
