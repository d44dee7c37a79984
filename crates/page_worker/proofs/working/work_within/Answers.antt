-- The starts are counted by the entries of the hops.
use Rattle.page_worker.proofs.Starting.{works_starts}
use Rattle.page_worker.specs.World.{world_of}
use Rattle.page_worker.proofs.working.work_within.Goals as goal

pub returns-clause-starts : goal.returns-clause-starts
returns-clause-starts g c =
    let tells = c.hops_from.ensures.tells in
    works_starts (world_of (g.F.Fetcher.gives c.args.fetcher.now) (g.F.Fetcher.follows c.args.fetcher.now) (g.C.Clock.reads c.args.clock.now)) c.args.job c.hops_from.result c.args.desk.now c.hops_from.new.desk
    (tells.own, (tells.adds, tells.tells))
