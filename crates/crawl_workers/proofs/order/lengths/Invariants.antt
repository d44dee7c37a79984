-- The counts of the lists so far, and room for the others.
-- Used by `lengths`.
use Rattle.std.proofs.Common.{◌≡◌, ◌≤◌, ◌+◌, drop, length}
use Rattle.std.specs.Prelude.{vec_capacity, vec_len}
use Rattle.job_line.specs.Sums.{jobs_in, weigh_all}
use Rattle.crawl_workers.specs.Orders.{lists_in}
use Rattle.crawl_workers.proofs.order.lengths.Given as goal

abbrev pub invariant-loop-list : goal.invariant-loop-list
invariant-loop-list l = record {
  counted : jobs_in l.counts.items + weigh_all (λ _. 1) (lists_in (drop l.list-index l.lists)) ≡ weigh_all (λ _. 1) (lists_in l.lists);
  so_many : vec_len l.counts ≡ l.list-index;
  room : length l.lists ≤ vec_capacity l.counts;
}
