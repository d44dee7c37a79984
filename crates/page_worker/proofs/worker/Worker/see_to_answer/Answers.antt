-- What was found stays so while the answer of another desk is awaited.
use Rattle.path_normal.specs.PageText.{authority_of}
use Rattle.page_worker.specs.Outcomes.{MayRefresh}
use Rattle.page_worker.specs.World.{world_of}
use Rattle.page_worker.proofs.Seeing.{awaited}
use Rattle.page_worker.proofs.worker.Worker.see_to_answer.Goals as goal

pub returns-in-Ok-InFlight-clause-refreshed : goal.returns-in-Ok-InFlight-clause-refreshed
returns-in-Ok-InFlight-clause-refreshed g c =
    let world = world_of (g.F.Fetcher.gives c.args.self.now.fetcher.now) (g.F.Fetcher.follows c.args.self.now.fetcher.now) (g.C.Clock.reads c.args.self.now.clock.now) in
    awaited (MayRefresh world (authority_of c.args.url.now)) _ _ _ c.args.desk.now c.find_answer.new.desk c.wait_answer.new.self
    c.in-Ok-InFlight.ensures.refreshed c.wait_answer.ensures.step
