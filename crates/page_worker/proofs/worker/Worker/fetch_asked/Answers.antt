-- The ask is granted, or its refusal is the hop.
use Rattle.std.proofs.Common.{sym, subst}
use Rattle.crawl_job.specs.declared.hop.Hop.{Hop}
use Rattle.page_worker.specs.Outcomes.{IsLastHop}
use Rattle.page_worker.specs.WaysOn.{AddsEntries}
use Rattle.page_worker.proofs.Hops.{ask_granted, ask_refused}
use Rattle.page_worker.specs.World.{world_of}
use Rattle.page_worker.proofs.worker.Worker.fetch_asked.Goals as goal

pub returns-in-Ok-clause-tells : goal.returns-in-Ok-clause-tells
returns-in-Ok-clause-tells g c =
    ask_granted (world_of (g.F.Fetcher.gives c.args.self.now.fetcher.now) (g.F.Fetcher.follows c.args.self.now.fetcher.now) (g.C.Clock.reads c.args.self.now.clock.now)) c.args.token c.args.url c.now.result c.args.followed
    c.in-Ok.permit c.fetch_granted.result c.args.desk.now c.ask.new.self c.fetch_granted.new.desk
    c.now.ensures c.in-Ok.ensures.step c.fetch_granted.ensures.tells

pub returns-in-Err-clause-tells : goal.returns-in-Err-clause-tells
returns-in-Err-clause-tells g c =
    let world = world_of (g.F.Fetcher.gives c.args.self.now.fetcher.now) (g.F.Fetcher.follows c.args.self.now.fetcher.now) (g.C.Clock.reads c.args.self.now.clock.now) in
    let P : Hop → Type 0 = λ hop. AddsEntries (IsLastHop world c.args.token c.args.url hop c.new.result.items) c.args.desk.now c.ask.new.self in
    subst P (sym c.ask_hop.ensures)
    (ask_refused world c.args.token c.args.url c.now.result c.in-Err.refusal c.new.result.items c.args.desk.now c.ask.new.self
    c.now.ensures c.new.ensures.items c.in-Err.ensures.step)
