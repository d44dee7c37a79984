-- A job is put at its own place.
-- Used by `place`.
use Rattle.std.proofs.Common.{◌≡◌, ◌∙◌, ◌<◌, ◌≤◌, ◌++◌, ◌∷◌, [], ℕ, List, length, slice_set, ap, sym, subst, arith, rules, append_assoc}
use Rattle.std.proofs.lemmas.List.{length-set}
use Rattle.std.specs.List.{slice_get}
use Rattle.job_line.specs.Sums.{weigh}
use Rattle.crawl_workers.specs.declared.crew.Done.{Done}
use Rattle.crawl_workers.specs.declared.report.Crawled.{Crawled}
use Rattle.crawl_workers.specs.Crews.{one_below, one_at_number}
use Rattle.crawl_workers.specs.Shifts.{numbers_of}
use Rattle.crawl_workers.proofs.Placing.{get_other, none_for_other, own_place, put_one, weigh_middle}
use Rattle.crawl_workers.proofs.places.place.Goals as goal

own_here : (all taken : List Done) (this : Done) (later : List Done) (before now : List Crawled) → all ≡ taken ++ this ∷ later → length now ≡ length before
    → ((n : ℕ) → weigh (one_at_number n) (numbers_of all) ≤ one_below (length before) n)
    → (this.number < length now) × (weigh (one_at_number this.number) (numbers_of taken) ≡ 0)
own_here all taken this later before now is len once =
    let own = own_place taken this later (length before)
    (subst (λ (done : List Done). weigh (one_at_number this.number) (numbers_of done) ≤ one_below (length before) this.number) is (once this.number)) in
    (omega (arith, own.0, len), own.1)

others_here : (before now : List Crawled) (taken : List Done) (this : Done)
    → ((n : ℕ) → weigh (one_at_number n) (numbers_of taken) ≡ 0 → slice_get now n ≡ slice_get before n)
    → (n : ℕ) → weigh (one_at_number n) (numbers_of (taken ++ this ∷ [])) ≡ 0 → slice_get (slice_set now this.number this.crawled) n ≡ slice_get before n
others_here before now taken this others n none =
    let middle = weigh_middle (one_at_number n) taken this [] in
    let differ = none_for_other n this.number (omega (arith, none, middle)) in
    get_other now this.number n this.crawled differ ∙ others n (omega (arith, none, middle))

pub offset_bounds-outcomes-number : goal.offset_bounds-outcomes-number
offset_bounds-outcomes-number c =
    let so_far = c.loop-job.invariant in
    let all = so_far.all ∙ ap (λ rest. so_far.taken ++ rest) c.in-Some.ensures.steps.0 in
    let own = own_here c.args.done.items so_far.taken c.in-Some.job c.next.new.self.rest.items c.args.outcomes.now c.loop-job.outcomes all so_far.len c.requires in
    let within : c.in-Some.job.number < length c.loop-job.outcomes = own.0 in
    search rules

pub bounds-outcomes-number : goal.bounds-outcomes-number
bounds-outcomes-number c =
    let so_far = c.loop-job.invariant in
    let all = so_far.all ∙ ap (λ rest. so_far.taken ++ rest) c.in-Some.ensures.steps.0 in
    (own_here c.args.done.items so_far.taken c.in-Some.job c.next.new.self.rest.items c.args.outcomes.now c.loop-job.outcomes all so_far.len c.requires).0

pub loop-job-preserved : goal.loop-job-preserved
loop-job-preserved c =
    let so_far = c.loop-job.invariant in
    let job = c.in-Some.job in
    let all = so_far.all ∙ ap (λ rest. so_far.taken ++ rest) c.in-Some.ensures.steps.0 in
    let own = own_here c.args.done.items so_far.taken job c.next.new.self.rest.items c.args.outcomes.now c.loop-job.outcomes all so_far.len c.requires in
    record {
      taken = so_far.taken ++ job ∷ [];
      all = all ∙ sym (append_assoc so_far.taken (job ∷ []) c.next.new.self.rest.items);
      len = length-set c.loop-job.outcomes job.number job.crawled ∙ so_far.len;
      placed = put_one c.loop-job.outcomes so_far.taken job own.0 own.1 so_far.placed;
      others = others_here c.args.outcomes.now c.loop-job.outcomes so_far.taken job so_far.others;
    }
