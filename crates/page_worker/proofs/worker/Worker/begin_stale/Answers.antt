-- What the step of the gate is to the desk.
-- By the lemma `may_begin`.
use Rattle.path_normal.specs.PageText.{authority_of}
use Rattle.page_worker.specs.World.{world_of}
use Rattle.page_worker.proofs.Seeing.{may_begin}
use Rattle.page_worker.proofs.worker.Worker.begin_stale.Goals as goal

pub returns-clause-begins : goal.returns-clause-begins
returns-clause-begins g c =
    may_begin (world_of (g.F.Fetcher.gives c.args.self.now.fetcher.now) (g.F.Fetcher.follows c.args.self.now.fetcher.now) (g.C.Clock.reads c.args.self.now.clock.now)) (authority_of c.args.url.now) c.closed_for-closed_for.result c.args.moment
    c.begin_if_stale.result c.args.desk.now c.begin_if_stale.new.desk c.lend-held.result c.begin_if_stale.new.held
    c.requires c.closed_for-closed_for.ensures c.lend-held.ensures c.begin_if_stale.ensures.begins
