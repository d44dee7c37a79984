-- A site that leaves the queue frees at most one place.
-- Used by `Turns::take`.
use Rattle.std.proofs.Common.{arith}
use Rattle.crawl_workers.proofs.Queuing.{one_freed}
use Rattle.crawl_workers.proofs.turns.Turns.take.Goals as goal

pub invariant_of-self-then-site-len : goal.invariant_of-self-then-site-len
invariant_of-self-then-site-len c =
    let one = one_freed c.args.self.now.stands.items c.in_ok-site.site in
    record { room = omega (arith, one, c.args.self.now.room, (c.in_ok-site.ensures {u = tt}).len, (c.in_ok-site.ensures {u = tt}).capacity) }
