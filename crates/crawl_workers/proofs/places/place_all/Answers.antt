-- Each worker's jobs are put at places of their own.
-- Used by `place_all`.
use Rattle.std.proofs.Common.{◌≡◌, ◌∙◌, ◌≤◌, ◌++◌, ◌∷◌, [], ℕ, List, Vec, Global, length, ap, sym, subst, arith, append_assoc}
use Rattle.std.specs.Prelude.{map}
use Rattle.std.proofs.lemmas.List.{map-append}
use Rattle.job_line.specs.Sums.{weigh, weigh_all}
use Rattle.crawl_workers.specs.declared.crew.Done.{Done}
use Rattle.crawl_workers.specs.Crews.{AllPlaced, all_numbers, one_below, one_at_number}
use Rattle.crawl_workers.specs.Shifts.{numbers_of}
use Rattle.crawl_workers.proofs.Placing.{all_weigh_middle, places_one}
use Rattle.crawl_workers.proofs.places.place_all.Goals as goal

abbrev jobs_of : List (Vec Done Global) → List (List Done)
jobs_of lists = map (λ (list : Vec Done Global). list.items) lists

once_here : (all taken : List (Vec Done Global)) (this : Vec Done Global) (later : List (Vec Done Global)) (count : ℕ) → all ≡ taken ++ this ∷ later
    → ((n : ℕ) → weigh_all (one_at_number n) (all_numbers (jobs_of all)) ≤ one_below count n)
    → (n : ℕ) → weigh_all (one_at_number n) (all_numbers (jobs_of taken ++ this.items ∷ jobs_of later)) ≤ one_below count n
once_here all taken this later count is once n =
    subst (λ (lists : List (List Done)). weigh_all (one_at_number n) (all_numbers lists) ≤ one_below count n)
    (ap jobs_of is ∙ map-append (λ (list : Vec Done Global). list.items) taken (this ∷ later)) (once n)

pub place-requires : goal.place-requires
place-requires c n =
    let so_far = c.loop-list.invariant in
    let list = c.in-Some.list in
    let later = c.next.new.self.rest.items in
    let all = so_far.all ∙ ap (λ rest. so_far.taken ++ rest) c.in-Some.ensures.steps.0 in
    let once = once_here c.args.done.items so_far.taken list later (length c.args.outcomes.now) all c.requires n in
    let middle = all_weigh_middle (one_at_number n) (jobs_of so_far.taken) list.items (jobs_of later) in
    subst (λ count. weigh (one_at_number n) (numbers_of list.items) ≤ one_below count n) (sym so_far.len) (omega (arith, once, middle))

pub loop-list-preserved : goal.loop-list-preserved
loop-list-preserved c =
    let so_far = c.loop-list.invariant in
    let list = c.in-Some.list in
    let later = c.next.new.self.rest.items in
    let all = so_far.all ∙ ap (λ rest. so_far.taken ++ rest) c.in-Some.ensures.steps.0 in
    let once = once_here c.args.done.items so_far.taken list later (length c.args.outcomes.now) all c.requires in
    record {
      taken = so_far.taken ++ list ∷ [];
      all = all ∙ sym (append_assoc so_far.taken (list ∷ []) later);
      len = c.place.ensures.len ∙ so_far.len;
      placed = subst (AllPlaced c.place.new.outcomes) (sym (map-append (λ (l : Vec Done Global). l.items) so_far.taken (list ∷ [])))
          (places_one c.loop-list.outcomes c.place.new.outcomes (jobs_of so_far.taken) list.items (jobs_of later) (length c.args.outcomes.now) once c.place.ensures.others so_far.placed c.place.ensures.placed);
    }
