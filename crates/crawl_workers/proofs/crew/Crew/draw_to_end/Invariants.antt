-- Drawn jobs are done, by the desk's marks.
-- Used by `Crew::draw_to_end`.
use Rattle.gate_lock.specs.Desks.{KeepsOut, receipt_of}
use Rattle.crawl_workers.specs.Crews.{HasWorked, StaysAt}
use Rattle.page_worker.specs.World.{world_of}
use Rattle.crawl_workers.proofs.crew.Crew.draw_to_end.Given as goal

abbrev pub invariant-draws : goal.invariant-draws
invariant-draws g l = record {
  goes : (goal.iterator-draws g).can_next l.iterator';
  ends : (goal.iterator-draws g).is_finite l.iterator';
  out : KeepsOut l.fn.desk l.desk;
  stays : StaysAt l.fn.work.seat l.work.seat;
  worked : HasWorked (world_of (g.F.Fetcher.gives l.self.fetcher.now) (g.F.Fetcher.follows l.self.fetcher.now) (g.C.Clock.reads l.self.clock.now)) l.self.jobs.now l.self.order.now l.work (receipt_of l.desk);
}
