-- The numbers of all lists, concatenated.
-- Used by `Order::of_jobs`.
use Rattle.std.proofs.Common.{◌≡◌, ◌∙◌, ℕ, List, Vec, Global, ap, arith, length}
use Rattle.job_line.specs.Sums.{weigh, weigh_all, weigh_below}
use Rattle.crawl_workers.specs.Orders.{lists_in}
use Rattle.crawl_workers.proofs.Ordering.{weigh_below_ones, weigh_ones}
use Rattle.crawl_workers.proofs.order.Order.of_jobs.Goals as goal

pub returns : goal.returns
returns c =
    let jobs = length c.args.jobs.now in
    let numbers = c.in_ok-joined.field-0.items in
    let all : (weight : ℕ → ℕ) → weigh_all weight (lists_in c.in_ok-names.field-0.lists.items) ≡ weigh_below weight jobs = c.in_ok-names.ensures {u = tt} in
    let each : (weight : ℕ → ℕ) → weigh weight numbers ≡ weigh_below weight jobs =
    λ weight. c.in_ok-joined.ensures {u = tt} weight ∙ ap (λ (lists : List (Vec ℕ Global)). weigh_all weight (lists_in lists)) c.deref-2.ensures.value ∙ all weight in
    record {
      jobs = c.in_ok-lengths.ensures {u = tt} ∙ ap (λ (lists : List (Vec ℕ Global)). weigh_all (λ _. 1) (lists_in lists)) c.deref.ensures.value ∙ all (λ _. 1) ∙ weigh_below_ones jobs;
      len = omega (arith, each (λ _. 1), weigh_ones numbers, weigh_below_ones jobs);
      each_once = each;
    }
