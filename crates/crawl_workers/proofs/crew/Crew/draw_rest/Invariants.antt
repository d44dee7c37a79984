-- The ends of the sites so far are found, and drawn jobs are done.
-- Used by `Crew::draw_rest`.
use Rattle.std.proofs.Common.{◌≡◌, ◌<◌, ℕ, true}
use Rattle.gate_lock.specs.Desks.{KeepsOut, receipt_of}
use Rattle.job_line.specs.Covers.{ended_at}
use Rattle.crawl_workers.specs.Crews.{HasWorked, StaysAt}
use Rattle.page_worker.specs.World.{world_of}
use Rattle.crawl_workers.proofs.crew.Crew.draw_rest.Given as goal

abbrev pub invariant-loop-site : goal.invariant-loop-site
invariant-loop-site g l = record {
  out : KeepsOut l.fn.desk l.desk;
  stays : StaysAt l.fn.work.seat l.work.seat;
  worked : HasWorked (world_of (g.F.Fetcher.gives l.self.fetcher.now) (g.F.Fetcher.follows l.self.fetcher.now) (g.C.Clock.reads l.self.clock.now)) l.self.jobs.now l.self.order.now l.work (receipt_of l.desk);
  found : (site : ℕ) → site < l.site → ended_at site l.work.seat ≡ true;
}
