-- All jobs are done, and the gate is settled with the earlier receipts too.
-- By the lemma `is_shift` of `Shifting`.
use Rattle.std.proofs.Common.{ℕ, Vec, Global, sym, subst, rules}
use Rattle.std.specs.Prelude.{map}
use Rattle.crawl_workers.specs.Shifts.{AreAllJobs, DoneView}
use Rattle.page_worker.specs.World.{world_of}
use Rattle.crawl_workers.proofs.Shifting.{is_shift}
use Rattle.crawl_workers.proofs.shift.ShiftCrew.run.Goals as goal

pub returns : goal.returns
returns g c =
    let crew = c.args.self.now in
    let world = world_of (g.F.Fetcher.gives crew.fetcher.now) (g.F.Fetcher.follows crew.fetcher.now) (g.C.Clock.reads crew.clock.now) in
    let jobs = c.args.jobs.now in
    let inside = c.outcomes.inside in
    let d : DoneView = record {
      outcomes = inside.outcomes.items;
      drawn = map (λ (list : Vec ℕ Global). list.items) inside.drawn.items;
      receipts = inside.receipts.items;
    } in
    let done = subst (AreAllJobs world jobs crew.workers) (sym c.outcomes.view_is) (c.in_ok-outcomes.ensures {u = tt}) in
    is_shift world jobs crew.workers c.args.past.items d c.append.new.self.items c.deref.result.now c.in_ok-settled.settled done (search rules)
    c.deref.ensures.value (c.in_ok-settled.ensures {u = tt}).settles (c.in_ok-settled.ensures {u = tt}).whole (c.in_ok-settled.ensures {u = tt}).starts
