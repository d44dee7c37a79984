-- A site outside the queue leaves room for one more.
-- Used by `Turns::line_up`.
use Rattle.std.proofs.Common.{arith}
use Rattle.crawl_workers.proofs.Queuing.{one_taken}
use Rattle.crawl_workers.proofs.turns.Turns.line_up.Goals as goal

pub push_back_reserved-requires : goal.push_back_reserved-requires
push_back_reserved-requires c =
    let one = one_taken c.args.self.now.stands.items c.args.site c.index.result.now (omega arith) c.index.ensures c.if-index.false in
    omega (arith, one, c.args.self.now.room)

pub invariant_of-self : goal.invariant_of-self
invariant_of-self c =
    let one = one_taken c.args.self.now.stands.items c.args.site c.index.result.now (omega arith) c.index.ensures c.if-index.false in
    record { room = omega (arith, one, c.args.self.now.room, c.push_back_reserved.ensures.len, c.push_back_reserved.ensures.capacity) }
