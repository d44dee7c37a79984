-- As many fetches were started as the outcomes of all jobs have.
-- Used by `run_shift`.
use Rattle.std.proofs.Common.{◌≡◌, ℕ, zero, suc, ◌+◌, List, [], ◌∷◌, length, refl, sym, ap, ◌∙◌, arith, length-append}
use Rattle.std.specs.Prelude.{Option, Some, None}
use Rattle.std.specs.List.{AllZip, slice_get}
use Rattle.gate_history.specs.declared.entry.Entry.{Entry}
use Rattle.gate_marks.specs.Marks.{Receipt, SealedView, starts_of_all}
use Rattle.job_line.specs.Sums.{weigh, weigh_all, weigh_below}
use Rattle.crawl_job.specs.declared.job.Job.{Job}
use Rattle.crawl_workers.specs.declared.crew.Done.{Done}
use Rattle.crawl_workers.specs.declared.report.Crawled.{Crawled}
use Rattle.page_worker.specs.OutcomeLaws.{numbers_started}
use Rattle.page_worker.specs.Outcomes.{fetches_in}
use Rattle.page_worker.specs.Refreshes.{entries_of}
use Rattle.crawl_workers.specs.Shifts.{all_fetches, AreDone, ArePlaced, numbers_of, Worked}
use Rattle.page_worker.specs.World.{World}
use Rattle.page_worker.proofs.Starting.{fetches_counted, outcome_starts, started_append, starts_counted}

abbrev fetches_of : Option Crawled → ℕ
fetches_of None = 0
fetches_of (Some crawled) = fetches_in crawled.hops.items

-- the fetches of a numbered job
abbrev fetches_at : List Crawled → ℕ → ℕ
fetches_at outcomes n = fetches_of (slice_get outcomes n)

done_starts : (world : World) (jobs : List Job) (outcomes : List Crawled) (list : List Done) (own : List Entry) → AreDone world jobs list own → ArePlaced outcomes list →
    length (numbers_started own) ≡ weigh (fetches_at outcomes) (numbers_of list)
done_starts world jobs outcomes [] own none placed = ap (λ es. length (numbers_started es)) none
done_starts world jobs outcomes (done ∷ list) own are placed =
    let first = are.first_is in
    let here = ap length (outcome_starts world first.job first.outcome are.first first.told) in
    let hops = ap (λ (hops : _). fetches_in hops.items) first.hops_are in
    let rest = done_starts world jobs outcomes list are.later are.later_are placed.1 in
    let all = ap (λ es. length (numbers_started es)) are.own_is ∙ ap length (started_append are.first are.later)
    ∙ length-append (numbers_started are.first) (numbers_started are.later) in
    omega (arith, all, here, fetches_counted first.outcome.hops.items, hops, ap fetches_of placed.0, rest)

worked_starts : (world : World) (jobs : List Job) (outcomes : List Crawled) (drawn : List (List ℕ)) (receipts : List Receipt) →
    AllZip (Worked world jobs outcomes) drawn receipts → starts_of_all receipts ≡ weigh_all (fetches_at outcomes) drawn
worked_starts world jobs outcomes [] [] worked = refl
worked_starts world jobs outcomes [] (r ∷ rs) worked = absurd worked
worked_starts world jobs outcomes (ns ∷ nss) [] worked = absurd worked
worked_starts world jobs outcomes (ns ∷ nss) (r ∷ rs) worked =
    let one = worked.0 in
    let here = starts_counted r.marks ∙ done_starts world jobs outcomes one.done (entries_of r.marks) one.are_done one.are_placed ∙ ap (weigh (fetches_at outcomes)) one.numbers_are in
    let none = ap (λ (s : SealedView). s.starts) one.are_all in
    omega (arith, here, none, worked_starts world jobs outcomes nss rs worked.1)

first_below : (weight : ℕ → ℕ) (n : ℕ) → weigh_below weight (suc n) ≡ weight 0 + weigh_below (λ k. weight (suc k)) n
first_below weight zero = omega arith
first_below weight (suc n) = omega (arith, first_below weight n)

all_below : (outcomes : List Crawled) → weigh_below (fetches_at outcomes) (length outcomes) ≡ all_fetches outcomes
all_below [] = refl
all_below (crawled ∷ outcomes) = omega (arith, first_below (fetches_at (crawled ∷ outcomes)) (length outcomes), all_below outcomes)

pub starts_are_fetches : (world : World) (jobs : List Job) (outcomes : List Crawled) (drawn : List (List ℕ)) (receipts : List Receipt) →
    AllZip (Worked world jobs outcomes) drawn receipts → ((weight : ℕ → ℕ) → weigh_all weight drawn ≡ weigh_below weight (length jobs)) →
    length outcomes ≡ length jobs → starts_of_all receipts ≡ all_fetches outcomes
starts_are_fetches world jobs outcomes drawn receipts worked each same =
    worked_starts world jobs outcomes drawn receipts worked ∙ each (fetches_at outcomes) ∙ ap (weigh_below (fetches_at outcomes)) (sym same) ∙ all_below outcomes
