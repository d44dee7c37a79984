-- The workers of a shift: what each draws, does and hands over.
-- The contracts of the functions behind `run_shift`.
use Rattle.std.specs.Prelude.{◌≡◌, ℕ, ◌++◌, ◌==◌, nat_lt, true, All, List, [], ◌∷◌, length, map, Result, IfOk}
use Rattle.std.specs.List.{list_any}
use Rattle.atomic_table.specs.Seated.{TableId}
use Rattle.gate_lock.specs.Desks.{DeskView}
use Rattle.authority_cache.specs.Calls.{one_if}
use Rattle.gate_history.specs.declared.entry.Entry.{Entry}
use Rattle.gate_marks.specs.Marks.{Receipt, nothing_sealed}
use Rattle.job_line.specs.Covers.{IsNew, SeatView, ended_at, has_ended, lists_of, parts_of}
use Rattle.job_line.specs.Limits.{max_workers}
use Rattle.job_line.specs.Sums.{weigh, weigh_all}
use Rattle.crawl_workers.specs.declared.crew.Done.{Done}
use Rattle.crawl_job.specs.declared.job.Job.{Job}
use Rattle.crawl_workers.specs.declared.report.Crawled.{Crawled}
use Rattle.crawl_workers.specs.declared.report.ShiftFault.{ShiftFault}
use Rattle.crawl_workers.specs.Orders.{weigh_at}
use Rattle.page_worker.specs.Refreshes.{entries_of}
use Rattle.crawl_workers.specs.Shifts.{AreDone, ArePlaced, IsDone, numbers_of}
use Rattle.page_worker.specs.World.{World}

-- a desk did one more job
abbrev pub DoesJob : World → List Job → Done → DeskView → DeskView → Type 0
DoesJob world jobs done old new =
    (own : List Entry) × ((entries_of new.marks ≡ entries_of old.marks ++ own) × IsDone world jobs done own)

-- a worker drew these jobs, and a desk with these receipts did exactly them
pub record HasDone (world : World) (jobs : List Job) (drawn : List ℕ) (done : List Done) (r : Receipt) : Type 0 where
  pub numbers : numbers_of done ≡ drawn
  pub are_done : AreDone world jobs done (entries_of r.marks)
  pub are_all : r.sealed ≡ nothing_sealed

-- a worker's progress: its seat at the line, the jobs drawn and the jobs done
pub record WorkView : Type 0 where
  pub seat : SeatView
  pub drawn : List ℕ
  pub done : List Done

-- a new worker's work at a seat of the line
pub record IsNewWork (line : TableId) (counts : List ℕ) (work : WorkView) : Type 0 where
  pub new_seat : IsNew line counts work.seat
  pub none_drawn : work.drawn ≡ []
  pub none_done : work.done ≡ []

-- a seat of a line with these counts of jobs
pub record IsAtLine (line : TableId) (counts : List ℕ) (seat : SeatView) : Type 0 where
  pub its_line : seat.line ≡ line
  pub its_counts : seat.counts ≡ counts
  pub its_sites : length seat.ended ≡ length counts

-- the seat is the same, whatever was drawn, and remembers the ends found
pub record StaysAt (old new : SeatView) : Type 0 where
  pub same_line : new.line ≡ old.line
  pub same_counts : new.counts ≡ old.counts
  pub same_parts : new.parts ≡ old.parts
  pub same_sites : length new.ended ≡ length old.ended
  pub ends_kept : (site : ℕ) → ended_at site old ≡ true → ended_at site new ≡ true

-- a worker drew the jobs at its seat's indexes, and a desk with these receipts did exactly them
pub record HasWorked (world : World) (jobs : List Job) (order : List ℕ) (work : WorkView) (r : Receipt) : Type 0 where
  pub has_drawn : (weight : ℕ → ℕ) → weigh weight work.drawn ≡ weigh (weigh_at order weight) work.seat.drawn
  pub has_done : HasDone world jobs work.drawn work.done r

-- the worker has also found the end of each site
pub record HasEnded (world : World) (jobs : List Job) (order : List ℕ) (work : WorkView) (r : Receipt) : Type 0 where
  pub has_worked : HasWorked world jobs order work r
  pub all_ended : has_ended work.seat ≡ true

-- a worker that did not fail did the jobs drawn at its seat, and found the end of each site
abbrev pub Ends : World → List Job → List ℕ → SeatView → Result (WorkView × Receipt) ShiftFault → Type 0
Ends world jobs order seat end =
    IfOk end (λ both. StaysAt seat both.0.seat × HasEnded world jobs order both.0 both.1)

-- what workers hand over: their seats, the jobs drawn and done, and their desks' receipts
pub record HandoverView : Type 0 where
  pub seats : List SeatView
  pub drawn : List (List ℕ)
  pub done : List (List Done)
  pub receipts : List Receipt

-- nothing yet
abbrev pub nothing_handed : HandoverView
nothing_handed = record { seats = []; drawn = []; done = []; receipts = [] }

-- these workers hand over, with these receipts
pub record HandsOver (works : List WorkView) (receipts : List Receipt) (h : HandoverView) : Type 0 where
  pub seats_are : h.seats ≡ map (λ work. work.seat) works
  pub drawn_are : h.drawn ≡ map (λ work. work.drawn) works
  pub done_are : h.done ≡ map (λ work. work.done) works
  pub receipts_are : h.receipts ≡ receipts

-- each worker did the jobs that it drew
abbrev pub EachHasDone : World → List Job → List (List ℕ) → List (List Done) → List Receipt → Type 0
EachHasDone world jobs [] [] [] = Unit {0}
EachHasDone world jobs (numbers ∷ drawn) (done ∷ more) (r ∷ receipts) =
    HasDone world jobs numbers done r × EachHasDone world jobs drawn more receipts
EachHasDone world jobs _ _ _ = ⊥

-- these seats' workers did all that they drew and hand it over, and one at least found each site's end
pub record AreAllDone (world : World) (jobs : List Job) (order : List ℕ) (line : TableId) (counts : List ℕ)
    (workers : ℕ) (h : HandoverView) : Type 0 where
  pub all_workers : length h.drawn ≡ workers
  pub have_done : EachHasDone world jobs h.drawn h.done h.receipts
  pub all_seats : length h.seats ≡ workers
  pub at_line : All (λ seat. seat.line ≡ line) h.seats
  pub same_counts : All (λ seat. seat.counts ≡ counts) h.seats
  pub all_parts : parts_of h.seats ≡ max_workers
  pub one_ended : list_any has_ended h.seats ≡ true
  pub have_drawn : (weight : ℕ → ℕ) → weigh_all weight h.drawn ≡ weigh_all (weigh_at order weight) (lists_of h.seats)

-- the numbers of the jobs done by each worker
abbrev pub all_numbers : List (List Done) → List (List ℕ)
all_numbers lists = map numbers_of lists

-- each done job has its hops at its place
abbrev pub AllPlaced : List Crawled → List (List Done) → Type 0
AllPlaced outcomes [] = Unit {0}
AllPlaced outcomes (done ∷ lists) = ArePlaced outcomes done × AllPlaced outcomes lists

-- one for this number, zero for others
abbrev pub one_at_number : ℕ → ℕ → ℕ
one_at_number n m = one_if (m == n)

-- one for numbers below the count, zero for others
abbrev pub one_below : ℕ → ℕ → ℕ
one_below count n = one_if (nat_lt n count)
