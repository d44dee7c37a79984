-- A law of outcomes: their fetches are those that the desk started.
-- Used by the laws of outcomes.
use Rattle.std.specs.Prelude.{◌≡◌, ◌∷◌, [], ℕ, List, length}
use Rattle.gate_history.specs.declared.entry.Entry.{Entry}
use Rattle.gate_history.specs.declared.entry.Entry.TheVariants as entries
use Rattle.crawl_job.specs.declared.hop.Hop.{Hop}
use Rattle.crawl_job.specs.declared.hop.Hop.TheVariants as hops
use Rattle.crawl_job.specs.declared.job.Job.{Job}
use Rattle.crawl_job.specs.declared.job.Outcome.{Outcome}
use Rattle.page_worker.specs.Outcomes.{IsOutcome, fetches_in}
use Rattle.page_worker.specs.World.{World}

-- the numbers of the permits with started fetches, in order
abbrev pub numbers_started : List Entry → List ℕ
numbers_started [] = []
numbers_started (entries.Started moment number reason ∷ later) = number ∷ numbers_started later
numbers_started (_ ∷ later) = numbers_started later

-- the numbers of the permits by which pages were fetched or failed, in order
abbrev pub numbers_fetched : List Hop → List ℕ
numbers_fetched [] = []
numbers_fetched (hops.Page number reason status size cut ∷ later) = number ∷ numbers_fetched later
numbers_fetched (hops.Fault number fault ∷ later) = number ∷ numbers_fetched later
numbers_fetched (_ ∷ later) = numbers_fetched later

-- an outcome's fetches are those started meanwhile, by number and in order
abbrev pub FetchesAreStarted : World → Type 0
FetchesAreStarted world = (job : Job) (outcome : Outcome) (own : List Entry) →
    IsOutcome world job outcome own → numbers_started own ≡ numbers_fetched outcome.hops.items

-- as many hops are fetches as have numbers
abbrev pub FetchesAreCounted : Type 0
FetchesAreCounted = (all : List Hop) → fetches_in all ≡ length (numbers_fetched all)
