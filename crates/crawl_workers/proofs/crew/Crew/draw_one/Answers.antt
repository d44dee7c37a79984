-- The drawn index is that of a job, which is done.
-- Used by `Crew::draw_one`.
use Rattle.std.proofs.Common.{◌∙◌, ◌++◌, ◌∷◌, [], ap, arith, length, refl}
use Rattle.std.specs.Prelude.{slice_index}
use Rattle.job_line.specs.Covers.{SeatView}
use Rattle.job_line.specs.Sums.{jobs_in}
use Rattle.crawl_workers.specs.Crews.{WorkView}
use Rattle.crawl_workers.proofs.Drawing.{draws_more, is_job}
use Rattle.crawl_workers.proofs.crew.Crew.draw_one.Goals as goal

pub do_next-requires-clause-job : goal.do_next-requires-clause-job
do_next-requires-clause-job g c =
    let is = c.args.self.now.is_order in
    let counts = ap (λ (w : WorkView). jobs_in w.seat.counts) c.work.view_is ∙ ap jobs_in c.requires.seat.its_counts in
    is_job (length c.args.self.now.jobs.now) c.args.self.now.counts.now c.args.self.now.order.now is c.in-Some.index
    (omega (arith, (c.in-Some.ensures {u = tt}).some.0, counts, is.jobs, is.len))

pub returns-clause-ok : goal.returns-clause-ok
returns-clause-ok g c =
    let work = c.args.work.now in
    let index = c.in-Some.index in
    let did = c.in_ok-do_next.ensures {u = tt} in
    let number = slice_index c.args.self.now.order.now index in
    let new = c.do_next.new.work in record {
      has_drawn = draws_more c.args.self.now.order.now work.drawn new.drawn work.seat.drawn new.seat.drawn index number c.requires.so_far.has_drawn refl
          (ap (λ (s : SeatView). s.drawn) (did.seat ∙ (c.in-Some.ensures {u = tt}).some.1) ∙ ap (λ (w : WorkView). w.seat.drawn ++ index ∷ []) c.work.view_is)
          (did.drawn ∙ ap (λ (w : WorkView). w.drawn ++ number ∷ []) c.work.view_is);
      has_done = did.ok;
    }
