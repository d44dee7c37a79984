-- The texts of a report, by their numbers.
-- Used by the proofs of `report_lines`.
use Rattle.std.proofs.Common.{◌≡◌, ◌<◌, ◌≤◌, ℕ, ◌+◌, ◌-◌, ◌^◌, zero, suc, add-zero, List, [], ◌∷◌, length, refl, sym, ap, subst, ◌∙◌, arith}
use Rattle.std.specs.Prelude.{None, Option, Some, drop, min, slice_index_or}
use Rattle.std.specs.List.{slice_get}
use Rattle.std.proofs.lemmas.Grind.{common_steps}
use Rattle.crawl_shift.specs.ReportText.{hop_count, job_text, report_texts}
use Rattle.crawl_workers.specs.declared.report.Crawled.{Crawled}

-- a report has a text for each job, and the last line
pub length-report_texts : (number : ℕ) (outcomes : List Crawled) (last : List ℕ) → length (report_texts number outcomes last) ≡ length outcomes + 1
length-report_texts number [] last = refl
length-report_texts number (crawled ∷ later) last = let rest = length-report_texts (number + 1) later last in grind (arith, common_steps, rest)

-- the text of a job is at its number
pub job_at : (number i : ℕ) (outcomes : List Crawled) (last : List ℕ) (crawled : Crawled) → slice_get outcomes i ≡ Some crawled
    → slice_get (report_texts number outcomes last) i ≡ Some (job_text (number + i) crawled.hops.items)
job_at number i [] last crawled is = absurd (cc)
job_at number zero (first ∷ later) last crawled is =
    let same : first ≡ crawled = cc in
    ap (λ (x : Crawled). Some (job_text number x.hops.items)) same ∙ ap (λ n. Some (job_text n crawled.hops.items)) (sym (add-zero number))
job_at number (suc i) (first ∷ later) last crawled is =
    let next : (number + 1) + i ≡ number + suc i = omega arith in
    job_at (number + 1) i later last crawled is ∙ ap (λ n. Some (job_text n crawled.hops.items)) next

-- the last line is the last text
pub last_at : (number : ℕ) (outcomes : List Crawled) (last : List ℕ) → slice_get (report_texts number outcomes last) (length outcomes) ≡ Some last
last_at number [] last = refl
last_at number (first ∷ later) last = last_at (number + 1) later last

-- the hops of the outcomes that are left, with those of the next one
pub hops_left : (outcomes : List Crawled) (i : ℕ) (crawled : Crawled) → i < length outcomes → crawled ≡ slice_index_or outcomes i crawled
    → hop_count (drop i outcomes) ≡ length crawled.hops.items + hop_count (drop (i + 1) outcomes)
hops_left outcomes i crawled there at =
    left outcomes i crawled there at ∙ ap (λ k. length crawled.hops.items + hop_count (drop k outcomes)) (next i)
  where
    next : (n : ℕ) → suc n ≡ n + 1
    next n = omega arith

    left : (outcomes : List Crawled) (i : ℕ) (crawled : Crawled) → i < length outcomes → crawled ≡ slice_index_or outcomes i crawled
        → hop_count (drop i outcomes) ≡ length crawled.hops.items + hop_count (drop (suc i) outcomes)
    left [] i crawled there at = absurd (omega arith)
    left (first ∷ later) zero crawled there at = ap (λ (x : Crawled). length x.hops.items + hop_count later) (sym at)
    left (first ∷ later) (suc i) crawled there at = left later i crawled (omega (arith, there)) at

-- past the outcomes no hops are left
hops_past : (outcomes : List Crawled) (i : ℕ) → length outcomes ≤ i → hop_count (drop i outcomes) ≡ 0
hops_past [] zero there = refl
hops_past [] (suc i) there = refl
hops_past (first ∷ later) zero there = absurd (omega (arith, there))
hops_past (first ∷ later) (suc i) there = hops_past later i (omega (arith, there))

-- once no outcome is left, all hops are counted, as far as a number goes
pub all_counted : (outcomes : List Crawled) (i hops : ℕ) → length outcomes ≤ i → hops ≤ 2 ^ 64 - 1
    → min (hops + hop_count (drop i outcomes)) (2 ^ 64 - 1) ≡ min (hop_count outcomes) (2 ^ 64 - 1)
    → hops ≡ min (hop_count outcomes) (2 ^ 64 - 1)
all_counted outcomes i hops there within all =
    let none = hops_past outcomes i there in
    let same : hops ≡ min (hops + hop_count (drop i outcomes)) (2 ^ 64 - 1) = omega (arith, none, within) in
    same ∙ all

-- past the outcomes there is none
pub none_past : (outcomes : List Crawled) (i : ℕ) → slice_get outcomes i ≡ None → length outcomes ≤ i
none_past [] i is = omega arith
none_past (first ∷ later) zero is = absurd (cc)
none_past (first ∷ later) (suc i) is = omega (arith, none_past later i is)

-- a text of no job is the last one
pub past_jobs : (number i : ℕ) (outcomes : List Crawled) (last : List ℕ) → i < length (report_texts number outcomes last)
    → length outcomes ≤ i → i ≡ length outcomes
past_jobs number i outcomes last there past = let many = length-report_texts number outcomes last in omega (arith, there, past, many)
