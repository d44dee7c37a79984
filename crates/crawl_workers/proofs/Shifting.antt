-- What all workers drew and did, once they have ended.
-- Used by `do_jobs` and `run` of `ShiftCrew`.
use Rattle.std.proofs.Common.{◌≡◌, ◌∙◌, ℕ, ◌+◌, ◌≤◌, List, [], ◌∷◌, ◌++◌, length, take, ap, sym, refl, subst, arith}
use Rattle.std.specs.Prelude.{Ok}
use Rattle.std.specs.List.{AllZip}
use Rattle.std.proofs.lemmas.List.{take-append-le, take_all}
use Rattle.gate_marks.specs.Marks.{Receipt, SealedView, handed_at_all, starts_of_all}
use Rattle.gate_settlement.specs.Settling.{IsWholeUnlessSealed, SettlesSome}
use Rattle.gate_lock.specs.Resting.{Totals}
use Rattle.job_line.specs.Sums.{weigh_all, weigh_below}
use Rattle.crawl_workers.specs.declared.crew.Done.{Done}
use Rattle.crawl_job.specs.declared.job.Job.{Job}
use Rattle.crawl_workers.specs.declared.report.Crawled.{Crawled}
use Rattle.crawl_workers.specs.Crews.{AllPlaced, EachHasDone, all_numbers, one_below, one_at_number}
use Rattle.crawl_workers.specs.Shifts.{AreAllJobs, DoneView, IsShift, Worked, all_fetches}
use Rattle.page_worker.specs.World.{World}
use Rattle.crawl_workers.proofs.Placing.{weigh_below-one_for}
use Rattle.crawl_workers.proofs.StartTotals.{starts_are_fetches}

pub numbers_drawn : (world : World) (jobs : List Job) (drawn : List (List ℕ)) (lists : List (List Done)) (receipts : List Receipt)
    → EachHasDone world jobs drawn lists receipts → all_numbers lists ≡ drawn
numbers_drawn world jobs [] [] [] did = refl
numbers_drawn world jobs [] [] (r ∷ rs) did = absurd did
numbers_drawn world jobs [] (ds ∷ dss) receipts did = absurd did
numbers_drawn world jobs (ns ∷ nss) [] receipts did = absurd did
numbers_drawn world jobs (ns ∷ nss) (ds ∷ dss) [] did = absurd did
numbers_drawn world jobs (ns ∷ nss) (ds ∷ dss) (r ∷ rs) did = λ i. did.0.numbers i ∷ numbers_drawn world jobs nss dss rs did.1 i

pub done_once : (world : World) (jobs : List Job) (drawn : List (List ℕ)) (lists : List (List Done)) (receipts : List Receipt) (count : ℕ)
    → EachHasDone world jobs drawn lists receipts → ((weight : ℕ → ℕ) → weigh_all weight drawn ≡ weigh_below weight count)
    → (n : ℕ) → weigh_all (one_at_number n) (all_numbers lists) ≤ one_below count n
done_once world jobs drawn lists receipts count did each n =
    omega (arith, ap (weigh_all (one_at_number n)) (numbers_drawn world jobs drawn lists receipts did), each (one_at_number n), weigh_below-one_for n count)

pub all_worked : (world : World) (jobs : List Job) (outcomes : List Crawled) (drawn : List (List ℕ)) (lists : List (List Done)) (receipts : List Receipt)
    → EachHasDone world jobs drawn lists receipts → AllPlaced outcomes lists → AllZip (Worked world jobs outcomes) drawn receipts
all_worked world jobs outcomes [] [] [] did placed = tt
all_worked world jobs outcomes [] [] (r ∷ rs) did placed = absurd did
all_worked world jobs outcomes [] (ds ∷ dss) receipts did placed = absurd did
all_worked world jobs outcomes (ns ∷ nss) [] receipts did placed = absurd did
all_worked world jobs outcomes (ns ∷ nss) (ds ∷ dss) [] did placed = absurd did
all_worked world jobs outcomes (ns ∷ nss) (ds ∷ dss) (r ∷ rs) did placed =
    (record { done = ds; numbers_are = did.0.numbers; are_placed = placed.0; are_done = did.0.are_done; are_all = did.0.are_all }, all_worked world jobs outcomes nss dss rs did.1 placed.1)

none_handed : (world : World) (jobs : List Job) (outcomes : List Crawled) (drawn : List (List ℕ)) (receipts : List Receipt)
    → AllZip (Worked world jobs outcomes) drawn receipts → handed_at_all receipts ≡ 0
none_handed world jobs outcomes [] [] worked = refl
none_handed world jobs outcomes [] (r ∷ rs) worked = absurd worked
none_handed world jobs outcomes (ns ∷ nss) [] worked = absurd worked
none_handed world jobs outcomes (ns ∷ nss) (r ∷ rs) worked =
    omega (arith, ap (λ (s : SealedView). s.handed) worked.0.are_all, none_handed world jobs outcomes nss rs worked.1)

pub lent_whole : (len : ℕ) (new rest : List Crawled) → length new ≡ len → take len (new ++ rest) ≡ new
lent_whole len new rest same = take-append-le len new rest (omega (arith, same)) ∙ take_all len new (omega (arith, same))

pub all_jobs : (world : World) (jobs : List Job) (workers : ℕ) (drawn : List (List ℕ)) (lists : List (List Done)) (receipts : List Receipt)
    (outcomes placed : List Crawled)
    → length drawn ≡ workers → ((weight : ℕ → ℕ) → weigh_all weight drawn ≡ weigh_below weight (length jobs))
    → EachHasDone world jobs drawn lists receipts
    → outcomes ≡ placed → length placed ≡ length jobs → AllPlaced placed lists
    → AreAllJobs world jobs workers (record { outcomes = outcomes; drawn = drawn; receipts = receipts })
all_jobs world jobs workers drawn lists receipts outcomes placed many each did same len placed_all = record {
  one_each = ap length same ∙ len;
  all_workers = many;
  each_once = each;
  worked = all_worked world jobs outcomes drawn lists receipts did (subst (λ (cs : List Crawled). AllPlaced cs lists) (sym same) placed_all);
}

starts_of_done : (world : World) (jobs : List Job) (workers : ℕ) (d : DoneView) → AreAllJobs world jobs workers d → starts_of_all d.receipts ≡ all_fetches d.outcomes
starts_of_done world jobs workers d done = starts_are_fetches world jobs d.outcomes d.drawn d.receipts done.worked done.each_once done.one_each

starts_with : (rs past : List Receipt) → starts_of_all (rs ++ past) ≡ starts_of_all rs + starts_of_all past
starts_with [] past = omega arith
starts_with (r ∷ rs) past = let e = starts_with rs past in omega (arith, e)

handed_with : (rs past : List Receipt) → handed_at_all (rs ++ past) ≡ handed_at_all rs + handed_at_all past
handed_with [] past = omega arith
handed_with (r ∷ rs) past = let e = handed_with rs past in omega (arith, e)

pub is_shift : (world : World) (jobs : List Job) (workers : ℕ) (past : List Receipt) (d : DoneView) (all lent : List Receipt) (settled : Totals)
    → AreAllJobs world jobs workers d → all ≡ d.receipts ++ past → lent ≡ all → SettlesSome lent (Ok settled) → IsWholeUnlessSealed lent settled
    → settled.starts ≡ starts_of_all lent
    → IsShift world jobs workers past (record { outcomes = d.outcomes; drawn = d.drawn; receipts = all; settled = settled })
is_shift world jobs workers past d all lent settled done all_are lent_is settles whole starts =
    let a = starts ∙ ap starts_of_all (lent_is ∙ all_are) in
    let b = starts_with d.receipts past in
    let c = starts_of_done world jobs workers d done in
    let handed = ap handed_at_all all_are ∙ handed_with d.receipts past in
    let own = none_handed world jobs d.outcomes d.drawn d.receipts done.worked in
    record {
      own = d.receipts;
      receipts_are = all_are;
      done = done;
      settled = subst (λ (rs : List Receipt). SettlesSome rs (Ok settled)) lent_is settles;
      whole = λ none. subst (λ (rs : List Receipt). IsWholeUnlessSealed rs settled) lent_is whole (omega (arith, handed, own, none));
      starts = omega (arith, a, b, c);
    }
