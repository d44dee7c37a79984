-- Out of memory and a refused refresh end the list, behind what the refresh did.
use Rattle.crawl_job.specs.declared.hop.Hop.TheVariants as hops
use Rattle.crawl_job.specs.declared.hop.Refusal.TheVariants as refusals
use Rattle.page_worker.specs.Outcomes.{IsLastHop}
use Rattle.page_worker.proofs.Hops.{behind_refresh, refused}
use Rattle.page_worker.specs.World.{world_of}
use Rattle.page_worker.proofs.worker.Worker.hop_at.Goals as goal

pub returns-in-Err-clause-tells : goal.returns-in-Err-clause-tells
returns-in-Err-clause-tells g c =
    let world = world_of (g.F.Fetcher.gives c.args.self.now.fetcher.now) (g.F.Fetcher.follows c.args.self.now.fetcher.now) (g.C.Clock.reads c.args.self.now.clock.now) in
    let desk = c.see_to_answer-seen.new.desk in
    behind_refresh world c.args.url (IsLastHop world c.args.token.now c.args.url (hops.Err c.in-Err.refusal) c.new.result.items)
    c.args.desk.now desk desk c.see_to_answer-seen.ensures.refreshed
    (refused world c.args.token.now c.args.url c.in-Err.refusal c.new.result.items desk c.new.ensures.items)

pub returns-in-Err-copy-clause-tells : goal.returns-in-Err-copy-clause-tells
returns-in-Err-copy-clause-tells g c =
    let world = world_of (g.F.Fetcher.gives c.args.self.now.fetcher.now) (g.F.Fetcher.follows c.args.self.now.fetcher.now) (g.C.Clock.reads c.args.self.now.clock.now) in
    let desk = c.see_to_answer-seen.new.desk in
    behind_refresh world c.args.url (IsLastHop world c.args.token.now c.args.url (hops.Err refusals.NoMemory) c.new-in-Err-copy.result.items)
    c.args.desk.now desk desk c.see_to_answer-seen.ensures.refreshed
    (refused world c.args.token.now c.args.url refusals.NoMemory c.new-in-Err-copy.result.items desk c.new-in-Err-copy.ensures.items)
