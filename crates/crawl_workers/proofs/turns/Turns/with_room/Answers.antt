-- There is room for each site.
-- Used by `Turns::with_room`.
use Rattle.std.proofs.Common.{ap, arith}
use Rattle.crawl_workers.specs.Orders.{how_many_false}
use Rattle.crawl_workers.proofs.Queuing.{all_free}
use Rattle.crawl_workers.proofs.turns.Turns.with_room.Goals as goal

pub invariant_of-result : goal.invariant_of-result
invariant_of-result c =
    let line = c.in_ok-with_capacity.ensures {u = tt} in
    let stands = c.in_ok-vec.ensures {u = tt} in
    let free = ap how_many_false (stands.items_if_clones_equal (λ y same. same)) in
    record { room = omega (arith, free, all_free c.args.sites, line.len, line.capacity) }
