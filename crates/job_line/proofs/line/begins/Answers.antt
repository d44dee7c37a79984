-- Each site begins after the jobs of those before it.
-- Used by `begins`.
use Rattle.std.proofs.Common.{◌≡◌, ◌+◌, ◌∙◌, ◌∷◌, [], ◌++◌, ap, sym, arith, take}
use Rattle.std.specs.Prelude.{slice_index}
use Rattle.job_line.specs.Sums.{begins_from, jobs_in}
use Rattle.job_line.proofs.SiteLemmas.{begins-push, jobs_in-push, taken-fits, taken-next}
use Rattle.job_line.proofs.line.begins.Goals as goal

pub push_reserved-requires : goal.push_reserved-requires
push_reserved-requires c = omega (arith, c.loop-count.invariant.count, c.loop-count.invariant.room, c.loop-count-test.true)

pub overflow_add-jobs : goal.overflow_add-jobs
overflow_add-jobs c = omega (arith, c.loop-count.invariant.jobs, taken-fits c.args.counts.now c.loop-count.count-index c.loop-count-test.true, c.requires)

pub loop-count-preserved : goal.loop-count-preserved
loop-count-preserved c =
    let so_far = c.loop-count.invariant in
    let counts = c.args.counts.now in
    let n = c.loop-count.count-index in
    let next = taken-next counts n c.loop-count-test.true in
    let none : jobs_in (take n counts) ≡ 0 + jobs_in (take n counts) = omega arith in
    record {
      begins = c.push_reserved.ensures.items ∙ (λ i. so_far.begins i ++ so_far.jobs i ∷ []) ∙ ap (λ jobs. begins_from 0 (take n counts) ++ jobs ∷ []) none ∙ sym (begins-push 0 (take n counts) (slice_index counts n)) ∙ ap (begins_from 0) (sym next);
      jobs = ap (λ jobs. jobs + slice_index counts n) so_far.jobs ∙ sym (jobs_in-push (take n counts) (slice_index counts n)) ∙ ap jobs_in (sym next);
      count = omega (arith, so_far.count, c.push_reserved.ensures.len);
      room = omega (arith, so_far.room, c.push_reserved.ensures.capacity);
    }
