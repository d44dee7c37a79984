-- A shift of several workers: each job is drawn once, and the outcomes of the jobs that a worker drew tell, in the
-- order drawn, what its desk did.
-- Used by `run_shift`, and by shifts over texts.
use Rattle.std.specs.Prelude.{◌≡◌, ℕ, ◌+◌, ◌++◌, List, [], ◌∷◌, length, map, Ok, Some}
use Rattle.std.specs.List.{AllZip, slice_get}
use Rattle.gate_settlement.specs.Settling.{IsWhole, SettlesSome}
use Rattle.gate_history.specs.declared.entry.Entry.{Entry}
use Rattle.gate_marks.specs.Marks.{Receipt, handed_at_all, nothing_sealed, starts_of_all}
use Rattle.gate_lock.specs.Resting.{Totals}
use Rattle.job_line.specs.Sums.{weigh_all, weigh_below}
use Rattle.crawl_workers.specs.declared.crew.Done.{Done}
use Rattle.crawl_job.specs.declared.job.Job.{Job}
use Rattle.crawl_job.specs.declared.job.Outcome.{Outcome}
use Rattle.crawl_workers.specs.declared.report.Crawled.{Crawled}
use Rattle.page_worker.specs.Outcomes.{IsOutcome, fetches_in}
use Rattle.page_worker.specs.Refreshes.{entries_of}
use Rattle.page_worker.specs.World.{World}

-- an outcome with these hops and some body tells what a desk did for a job
pub record IsDone (world : World) (jobs : List Job) (done : Done) (own : List Entry) : Type 0 where
  pub job : Job
  pub outcome : Outcome
  pub job_is : slice_get jobs done.number ≡ Some job
  pub hops_are : outcome.hops ≡ done.crawled.hops
  pub told : IsOutcome world job outcome own

-- a desk did one job, and then others
pub record IsDoneFirst (world : World) (jobs : List Job) (done : Done) (Later : List Entry → Type 0)
    (own : List Entry) : Type 0 where
  pub first : List Entry
  pub later : List Entry
  pub first_is : IsDone world jobs done first
  pub later_are : Later later
  pub own_is : own ≡ first ++ later

-- a desk did exactly these jobs, in order
abbrev pub AreDone : World → List Job → List Done → List Entry → Type 0
AreDone world jobs [] own = own ≡ []
AreDone world jobs (done ∷ later) own = IsDoneFirst world jobs done (AreDone world jobs later) own

-- the numbers of the jobs, in order
abbrev pub numbers_of : List Done → List ℕ
numbers_of done = map (λ d. d.number) done

-- each of these jobs has its hops at its place
abbrev pub ArePlaced : List Crawled → List Done → Type 0
ArePlaced outcomes [] = Unit {0}
ArePlaced outcomes (done ∷ later) = (slice_get outcomes done.number ≡ Some done.crawled) × ArePlaced outcomes later

-- a worker drew these jobs, and their outcomes tell what its desk did
pub record Worked (world : World) (jobs : List Job) (outcomes : List Crawled) (numbers : List ℕ)
    (r : Receipt) : Type 0 where
  pub done : List Done
  pub numbers_are : numbers_of done ≡ numbers
  pub are_placed : ArePlaced outcomes done
  pub are_done : AreDone world jobs done (entries_of r.marks)
  pub are_all : r.sealed ≡ nothing_sealed

-- how many hops of all outcomes are fetches of a page
abbrev pub all_fetches : List Crawled → ℕ
all_fetches [] = 0
all_fetches (crawled ∷ later) = fetches_in crawled.hops.items + all_fetches later

-- the results before the gate is settled: the outcomes, and each worker's numbers and receipts
pub record DoneView : Type 0 where
  pub outcomes : List Crawled
  pub drawn : List (List ℕ)
  pub receipts : List Receipt

-- all jobs are done: the workers drew each number once, and each job has an outcome that tells what a desk did
pub record AreAllJobs (world : World) (jobs : List Job) (workers : ℕ) (done : DoneView) : Type 0 where
  pub one_each : length done.outcomes ≡ length jobs
  pub all_workers : length done.drawn ≡ workers
  pub each_once : (weight : ℕ → ℕ) → weigh_all weight done.drawn ≡ weigh_below weight (length jobs)
  pub worked : AllZip (Worked world jobs done.outcomes) done.drawn done.receipts

-- a report: the outcomes, each worker's numbers and receipts, and the settled gate
pub record ReportView : Type 0 where
  pub outcomes : List Crawled
  pub drawn : List (List ℕ)
  pub receipts : List Receipt
  pub settled : Totals

-- a shift's report over a gate with earlier receipts: all jobs are done; the workers' receipts and the earlier ones,
-- which come last, settle the gate, with as many more started fetches as the outcomes have; and they are a whole legal
-- history if the earlier ones handed nothing out
pub record IsShift (world : World) (jobs : List Job) (workers : ℕ) (past : List Receipt)
    (report : ReportView) : Type 0 where
  pub own : List Receipt
  pub receipts_are : report.receipts ≡ own ++ past
  pub done : AreAllJobs world jobs workers (record { outcomes = report.outcomes; drawn = report.drawn; receipts = own })
  pub settled : SettlesSome report.receipts (Ok report.settled)
  pub whole : handed_at_all past ≡ 0 → IsWhole report.receipts report.settled
  pub starts : report.settled.starts ≡ all_fetches report.outcomes + starts_of_all past
