-- A visit: one fetch of a page under a permit of its own, whose response it hands out, or why there was none.
-- RFC 9309, sections 2.2 and 2.4. Each step is a call of the desk, so its causes are those of the gate.
use Rattle.std.specs.Prelude.{◌≡◌, ◌⊎◌, ℕ, true, List, Option, None, Some, Result, Ok, Err}
use Rattle.path_normal.specs.PageText.{authority_of}
use Rattle.gate_history.specs.declared.outcome.Reason.{Reason}
use Rattle.gate_history.specs.Standing.{is_fetching}
use Rattle.gate_core.specs.declared.refusal.AskRefusal.{AskRefusal}
use Rattle.gate_core.specs.declared.refusal.Denial.{Denial}
use Rattle.gate_core.specs.Gate.{Gate, IsFull, Stays, history}
use Rattle.gate_core.specs.Replies.{cannot_know}
use Rattle.gate_lock.specs.Desks.{DeskView, Looks, Pass, Run}
use Rattle.gate_lock.specs.Steps.{DeskAsks, DeskFinishes, DeskStarts, Somewhere}
use Rattle.http_client.specs.declared.failure.Failure.{Failure}
use Rattle.http_wire.specs.declared.fault.WireFault.{WireFault}
use Rattle.http_wire.specs.declared.response.HttpReply.{HttpReply}
use Rattle.crawl_job.specs.declared.hop.Hop.{Hop}
use Rattle.crawl_job.specs.declared.hop.Hop.TheVariants as hops
use Rattle.crawl_job.specs.declared.hop.Refusal.{Refusal}
use Rattle.crawl_job.specs.declared.hop.Refusal.TheVariants as refusals
use Rattle.crawl_job.specs.declared.job.Job.{Job}
use Rattle.page_worker.specs.declared.visiting.PageVisit.{PageVisit}
use Rattle.page_worker.specs.declared.visiting.Visited.{Visited}
use Rattle.page_worker.specs.declared.visiting.Visited.TheVariants as visiteds
use Rattle.page_worker.specs.Newcomers.{IsShutOut}
use Rattle.page_worker.specs.Outcomes.{IsTurn, hop_of}
use Rattle.page_worker.specs.Refreshes.{entries_of}
use Rattle.page_worker.specs.Stale.{IsDue}
use Rattle.page_worker.specs.WaysOn.{AddsEntries, ask_hop}
use Rattle.page_worker.specs.World.{World}

-- ---- before the ask

-- the gate begins no turn of the authority, where so many more authorities may become known
abbrev pub HasNoTurn : Gate → List ℕ → ℕ → Refusal → Type 0
HasNoTurn g authority left refusals.LogFull = IsFull g 2
HasNoTurn g authority left refusals.AuthoritiesFull = IsShutOut g authority left ⊎ (cannot_know g authority ≡ true)
HasNoTurn g authority left refusals.NoMemory = Unit {0}
HasNoTurn g authority left refusals.Busy = ⊥
HasNoTurn g authority left refusals.PermitsFull = ⊥

-- a turn of the authority was due at a gate of the desk, which began none for this reason
pub record IsTurnRefused
    (world : World) (authority : List ℕ) (left : ℕ) (refusal : Refusal) (old new : DeskView)
    : Type 0 where
  pub moment : ℕ
  pub read : world.reads moment
  pub due : Somewhere old (λ before behind. IsDue world.closed_for before authority moment
      × HasNoTurn before authority left refusal × Stays before behind × Looks old before new)

-- at a gate of the desk an answer of the authority was in force, and no turn of it was due
pub record IsInForce (world : World) (authority : List ℕ) (old : DeskView) : Type 0 where
  pub moment : ℕ
  pub read : world.reads moment
  pub in_force : Somewhere old (λ before behind. IsDue world.closed_for before authority moment → ⊥)

-- an answer of the authority is seen to: a turn brings one, unless one is in force and none is due
abbrev pub SeesToAnswer : World → List ℕ → DeskView → DeskView → Type 0
SeesToAnswer world authority old new =
    AddsEntries (IsTurn world authority) old new
    ⊎ ((entries_of new.marks ≡ entries_of old.marks) × IsInForce world authority old)

-- a turn of the authority was due at a gate of the desk, where one was in flight; nothing is done
pub record IsInFlight (world : World) (authority : List ℕ) (old new : DeskView) : Type 0 where
  pub moment : ℕ
  pub read : world.reads moment
  pub in_flight : Somewhere old (λ before behind. IsDue world.closed_for before authority moment
      × (is_fetching (history before) authority ≡ true) × Stays before behind × Looks old before new)

-- ---- what a visit tells

-- a hop without a fetch
abbrev pub visit_without : Hop → PageVisit
visit_without hop = record { hop = hop; reply = None; failure = None }

-- the response of a fetch
abbrev pub reply_given : Result HttpReply WireFault → Option HttpReply
reply_given (Ok reply) = Some reply
reply_given (Err fault) = None

-- a fetch by permit and result, and why its device failed
abbrev pub visit_of : ℕ → Reason → Result HttpReply WireFault → Option Failure → PageVisit
visit_of number reason given failure =
    record { hop = hop_of number reason given; reply = reply_given given; failure = failure }

-- ---- from the ask on

-- the ask is denied or refused
pub record IsUngranted (world : World) (token url : List ℕ) (visit : PageVisit) (old new : DeskView) : Type 0 where
  pub refusal : AskRefusal
  pub moment : ℕ
  pub read : world.reads moment
  pub asks : Somewhere old (λ before behind. DeskAsks old before token url moment (Err refusal) behind new)
  pub tells : visit ≡ visit_without (ask_hop refusal)

-- the start of the permit is denied
pub record IsUnstarted (world : World) (permit : Pass) (visit : PageVisit) (old new : DeskView) : Type 0 where
  pub denial : Denial
  pub moment : ℕ
  pub read : world.reads moment
  pub starts : Somewhere old (λ before behind. DeskStarts old before permit moment (Err denial) behind new)
  pub tells : visit ≡ visit_without (hops.No denial)

-- the permit's fetch is started, gives a result, and is finished
pub record IsFetchedOnce (world : World) (permit : Pass) (visit : PageVisit) (old new : DeskView) : Type 0 where
  pub run : Run
  pub moment : ℕ
  pub read : world.reads moment
  pub between : DeskView
  pub starts : Somewhere old (λ before behind. DeskStarts old before permit moment (Ok run) behind between)
  pub given : Result HttpReply WireFault
  pub is_given : world.gives world.page_limit permit.url given
  pub failure : Option Failure
  pub finishes : Somewhere between (λ before behind. DeskFinishes between before permit.number behind new)
  pub tells : visit ≡ visit_of permit.number run.reason given failure

-- the permit is spent: its start is denied, or its fetch is made once
abbrev pub SpendsPermit : World → Pass → PageVisit → DeskView → DeskView → Type 0
SpendsPermit world permit visit old new =
    IsUnstarted world permit visit old new ⊎ IsFetchedOnce world permit visit old new

-- the ask is granted a permit for this token and URL, which is spent
pub record IsGranted (world : World) (token url : List ℕ) (visit : PageVisit) (old new : DeskView) : Type 0 where
  pub permit : Pass
  pub moment : ℕ
  pub read : world.reads moment
  pub between : DeskView
  pub asks : Somewhere old (λ before behind. DeskAsks old before token url moment (Ok permit) behind between)
  pub spends : SpendsPermit world permit visit between new

-- one ask, and what it leads to
abbrev pub AsksOnce : World → List ℕ → List ℕ → PageVisit → DeskView → DeskView → Type 0
AsksOnce world token url visit old new =
    IsUngranted world token url visit old new ⊎ IsGranted world token url visit old new

-- ---- the visit

-- no ask is made, since the authority's turn is refused
pub record IsUnanswered
    (world : World) (authority : List ℕ) (left : ℕ) (visit : PageVisit) (old new : DeskView)
    : Type 0 where
  pub refusal : Refusal
  pub refused : IsTurnRefused world authority left refusal old new
  pub tells : visit ≡ visit_without (hops.Err refusal)

-- one ask is made after an answer was seen to
pub record IsAsked (world : World) (token url : List ℕ) (visit : PageVisit) (old new : DeskView) : Type 0 where
  pub between : DeskView
  pub sees : SeesToAnswer world (authority_of url) old between
  pub asks : AsksOnce world token url visit between new

-- a visit to the page of a job, where so many more authorities may become known, and so many behind it. It waits for
-- nobody: where another desk fetches the authority's robots.txt, nothing is done
abbrev pub VisitsPage : World → Job → ℕ → Visited → ℕ → DeskView → DeskView → Type 0
VisitsPage world job left (visiteds.Done visit) left2 old new =
    IsUnanswered world (authority_of job.url) left visit old new ⊎ IsAsked world job.token job.url visit old new
VisitsPage world job left visiteds.InFlight left2 old new =
    IsInFlight world (authority_of job.url) old new × (left2 ≡ left)
