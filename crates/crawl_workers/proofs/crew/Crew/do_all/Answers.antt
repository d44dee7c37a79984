-- New workers all end.
-- Used by `do_all`.
use Rattle.std.proofs.Common.{List, ap, arith, length, subst}
use Rattle.job_line.specs.Covers.{SeatView}
use Rattle.worker_pool.specs.Pools.{ReturnEach}
use Rattle.crawl_workers.specs.Crews.{Ends}
use Rattle.page_worker.specs.World.{world_of}
use Rattle.crawl_workers.proofs.Handing.{all_did, works_as_many}
use Rattle.crawl_workers.proofs.crew.Crew.do_all.Goals as goal

pub filled-requires-clause-few : goal.filled-requires-clause-few
filled-requires-clause-few g c =
    let world = world_of (g.F.Fetcher.gives c.args.self.now.fetcher.now) (g.F.Fetcher.follows c.args.self.now.fetcher.now) (g.C.Clock.reads c.args.self.now.clock.now) in
    let works = c.in_ok-returned.returned.works.items in
    let many = works_as_many world c.args.self.now.jobs.now c.args.self.now.order.now c.in_ok-pool.pool works c.in_ok-returned.returned.receipts.items (c.in_ok-returned.ensures {u = tt}) in
    omega (arith, many, ap length (c.in_ok-pool.ensures {u = tt}), c.requires.few.1)

pub returns : goal.returns
returns g c =
    let world = world_of (g.F.Fetcher.gives c.args.self.now.fetcher.now) (g.F.Fetcher.follows c.args.self.now.fetcher.now) (g.C.Clock.reads c.args.self.now.clock.now) in
    let crew = c.args.self.now in
    let returned = c.in_ok-returned.returned in
    let each = subst (λ (seats : List SeatView). ReturnEach (Ends world crew.jobs.now crew.order.now) seats returned.works.items returned.receipts.items)
    (c.in_ok-pool.ensures {u = tt}) (c.in_ok-returned.ensures {u = tt}) in
    all_did world crew.jobs.now crew.order.now crew.line.now crew.counts.now c.args.seats.items returned.works.items returned.receipts.items c.args.seats.len c.filled.result
    c.requires.few.0 (omega arith) c.requires.seats c.requires.parts each c.filled.ensures
