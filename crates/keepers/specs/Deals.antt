-- What a keeper deals in: each call relates the keeper before, the arguments, the reply, and the
-- keeper after. Cited by `Keeper` and its holders.
use Rattle.std.specs.Prelude.{ℕ, Bool, List, Option, Result}
use Rattle.authority_cache.specs.declared.standing_answer.StandingAnswer.{StandingAnswer}
use Rattle.permit_book.specs.declared.refusal.NotOut.{NotOut}
use Rattle.gate_history.specs.declared.outcome.Reason.{Reason}
use Rattle.gate_history.specs.Segment.{Sealed}
use Rattle.gate_core.specs.declared.refusal.AskRefusal.{AskRefusal}
use Rattle.gate_core.specs.declared.refusal.BeginRefusal.{BeginRefusal}
use Rattle.gate_core.specs.declared.refusal.Denial.{Denial}
use Rattle.gate_core.specs.declared.refusal.NoMemory.{NoMemory}
use Rattle.gate_core.specs.declared.state.Standing.{Standing}
use Rattle.gate_core.specs.declared.state.State.{State}
use Rattle.crawl_job.specs.declared.job.Job.{Job}
use Rattle.crawl_job.specs.declared.job.Outcome.{Outcome}
use Rattle.page_worker.specs.declared.visiting.Visited.{Visited}
use Rattle.keepers.specs.declared.counts.Counts.{Counts}
use Rattle.path_normal.specs.declared.schemes.Schemes.{Schemes}

-- a refresh, a fetch and a visit take the clock's readings, which they read as they go
pub record Deals (S : Type 0) : Type 1 where
  pub can_fetch : S → Bool
  pub schemes : S → Schemes
  pub asks : S → (token url : List ℕ) (moment : ℕ) → Result ℕ AskRefusal → S → Type 0
  pub starts : S → (number : ℕ) (token url : List ℕ) (moment : ℕ) → Result Reason Denial → S → Type 0
  pub urls : S → (number : ℕ) → Option (List ℕ) → Type 0
  pub returns : S → (number : ℕ) → Result Unit NotOut → S → Type 0
  pub finishes : S → (number : ℕ) → Result Unit NotOut → S → Type 0
  pub counts : S → Counts → Type 0
  pub answers : S → (authority : List ℕ) → Result (Option StandingAnswer) NoMemory → Type 0
  pub reads : S → (authority : List ℕ) (moment : ℕ) → State → S → Type 0
  pub refreshes : (reads : ℕ → Type 0) → S → (authority : List ℕ) → Option (Result Standing BeginRefusal) → S → Type 0
  pub fetches : (reads : ℕ → Type 0) → S → Job → Option (Result Outcome NoMemory) → S → Type 0
  pub visits : (reads : ℕ → Type 0) → S → Job → Option Visited → S → Type 0
  pub seals : S → Result Sealed NoMemory → S → Type 0
  pub ends : S → S → Type 0
