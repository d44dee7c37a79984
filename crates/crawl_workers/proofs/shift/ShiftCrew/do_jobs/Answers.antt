-- All jobs are done, each once, and have their places.
-- Used by `do_jobs`.
use Rattle.std.proofs.Common.{◌≡◌, ◌∙◌, ◌≤◌, List, ℕ, Vec, Global, length, sym, subst}
use Rattle.std.specs.Prelude.{map}
use Rattle.job_line.specs.Sums.{weigh_all, weigh_below}
use Rattle.crawl_workers.specs.Crews.{AreAllDone, all_numbers, one_below, one_at_number}
use Rattle.crawl_workers.specs.Orders.{IsOrder}
use Rattle.page_worker.specs.World.{world_of}
use Rattle.crawl_workers.proofs.Drawing.{drawn_once}
use Rattle.crawl_workers.proofs.Shifting.{all_jobs, done_once, lent_whole}
use Rattle.crawl_workers.proofs.shift.ShiftCrew.do_jobs.Goals as goal

pub place_all-requires : goal.place_all-requires
place_all-requires g c n =
    let world = world_of (g.F.Fetcher.gives c.args.self.now.fetcher.now) (g.F.Fetcher.follows c.args.self.now.fetcher.now) (g.C.Clock.reads c.args.self.now.clock.now) in
    let jobs = c.args.jobs.now in
    let order = c.deref-3.result.now in
    let counts = c.deref-4.result.now in
    let drawn = map (λ (list : Vec ℕ Global). list.items) c.handover.inside.drawn.items in
    let lists = map (λ list. list.items) c.handover.inside.done.items in
    let receipts = c.handover.inside.receipts.items in
    let all = subst (AreAllDone world jobs order c.in_ok-line.line counts c.in_ok-line.seats.len) (sym c.handover.view_is) (c.in_ok-handover.ensures {u = tt}) in
    let is : IsOrder (length jobs) counts order = subst (IsOrder (length jobs) counts) (sym c.deref-3.ensures.value)
    (subst (λ (cs : List ℕ). IsOrder (length jobs) cs c.in_ok-names.field-0.numbers.items) (sym c.deref-4.ensures.value) (c.in_ok-names.ensures {u = tt})) in
    let each : (weight : ℕ → ℕ) → weigh_all weight drawn ≡ weigh_below weight (length jobs) =
    drawn_once (length jobs) counts order drawn c.handover.inside.seats.items is (c.gather.ensures.covers counts all.same_counts all.all_parts) all.one_ended all.have_drawn in
    subst (λ (count : ℕ). weigh_all (one_at_number n) (all_numbers lists) ≤ one_below count n) (sym (c.deref_mut.ensures.len ∙ c.in_ok-outcomes.ensures))
    (done_once world jobs drawn lists receipts (length jobs) all.have_done each n)

pub returns : goal.returns
returns g c =
    let world = world_of (g.F.Fetcher.gives c.args.self.now.fetcher.now) (g.F.Fetcher.follows c.args.self.now.fetcher.now) (g.C.Clock.reads c.args.self.now.clock.now) in
    let jobs = c.args.jobs.now in
    let order = c.deref-3.result.now in
    let counts = c.deref-4.result.now in
    let drawn = map (λ (list : Vec ℕ Global). list.items) c.handover.inside.drawn.items in
    let lists = map (λ list. list.items) c.handover.inside.done.items in
    let receipts = c.handover.inside.receipts.items in
    let all = subst (AreAllDone world jobs order c.in_ok-line.line counts c.in_ok-line.seats.len) (sym c.handover.view_is) (c.in_ok-handover.ensures {u = tt}) in
    let is : IsOrder (length jobs) counts order = subst (IsOrder (length jobs) counts) (sym c.deref-3.ensures.value)
    (subst (λ (cs : List ℕ). IsOrder (length jobs) cs c.in_ok-names.field-0.numbers.items) (sym c.deref-4.ensures.value) (c.in_ok-names.ensures {u = tt})) in
    let each : (weight : ℕ → ℕ) → weigh_all weight drawn ≡ weigh_below weight (length jobs) =
    drawn_once (length jobs) counts order drawn c.handover.inside.seats.items is (c.gather.ensures.covers counts all.same_counts all.all_parts) all.one_ended all.have_drawn in
    let len = c.deref_mut.ensures.len ∙ c.in_ok-outcomes.ensures in
    all_jobs world jobs c.args.self.now.workers drawn lists receipts _ c.place_all.new.outcomes
    (all.all_workers ∙ (c.in_ok-line.ensures {u = tt}).count) each all.have_done
    (lent_whole _ c.place_all.new.outcomes _ (c.place_all.ensures.len ∙ c.deref_mut.ensures.len)) (c.place_all.ensures.len ∙ len) c.place_all.ensures.placed
