-- What a desk and its session's bag do: each step is the desk's, with marks of all replies, and
-- only what the bag holds is spent. Cited by `DeskKeeper`. RFC 9309, sections 2.2 to 2.4.
use Rattle.std.specs.Prelude.{◌≡◌, ◌⊎◌, ℕ, List, Option, Some, None, Result, Ok, Err}
use Rattle.gate_history.specs.Segment.{Sealed}
use Rattle.gate_core.specs.declared.refusal.AskRefusal.{AskRefusal}
use Rattle.gate_core.specs.declared.refusal.AskRefusal.TheVariants as ask
use Rattle.gate_core.specs.declared.refusal.BeginRefusal.{BeginRefusal}
use Rattle.gate_core.specs.declared.refusal.NoMemory.{NoMemory}
use Rattle.gate_core.specs.declared.state.Standing.{Standing}
use Rattle.gate_core.specs.declared.state.State.{State}
use Rattle.permit_bag.specs.Bags.{BagView, Clears, GainsPermit, HoldsSame, IsCleared}
use Rattle.gate_lock.specs.Desks.{Condenses, DeskView, KeepsOut, Pass, receipt_of}
use Rattle.gate_marks.specs.Marks.{Receipt}
use Rattle.gate_lock.specs.Steps.{DeskAsks, DeskReads, DeskSeals, Somewhere}
use Rattle.crawl_job.specs.declared.job.Job.{Job}
use Rattle.crawl_job.specs.declared.job.Outcome.{Outcome}
use Rattle.page_worker.specs.declared.visiting.Visited.{Visited}
use Rattle.page_worker.specs.Newcomers.{RefreshesWithin}
use Rattle.page_worker.specs.Outcomes.{Works}
use Rattle.page_worker.specs.Visits.{VisitsPage}
use Rattle.page_worker.specs.World.{World}

-- the desk may have condensed the marks of sealed entries
abbrev pub MayCondense : DeskView → DeskView → Type 0
MayCondense d d2 = (d2 ≡ d) ⊎ Somewhere d (λ old new. (new ≡ old) × Condenses d old d2)

-- a step of the desk, perhaps after condensing its marks
abbrev pub Behind : DeskView → (DeskView → Type 0) → Type 0
Behind d Step = (d1 : DeskView) × (MayCondense d d1 × Step d1)

-- ask: a step of the desk, with the permit put into the bag; without memory there, nothing was asked
abbrev pub KeeperAsks : DeskView → BagView → List ℕ → List ℕ → ℕ → Result ℕ AskRefusal → DeskView → BagView → Type 0
KeeperAsks d b token url m (Ok number) d2 b2 =
    (p : Pass) × ((p.number ≡ number) × Somewhere d (λ old new. DeskAsks d old token url m (Ok p) new d2)
    × GainsPermit b p b2)
KeeperAsks d b token url m (Err ask.NoMemory) d2 b2 =
    ((d2 ≡ d) ⊎ Somewhere d (λ old new. DeskAsks d old token url m (Err ask.NoMemory) new d2)) × HoldsSame b b2
KeeperAsks d b token url m (Err refusal) d2 b2 =
    Somewhere d (λ old new. DeskAsks d old token url m (Err refusal) new d2) × HoldsSame b b2

-- state: a look of the desk without a mark
abbrev pub KeeperReads : DeskView → BagView → List ℕ → ℕ → State → DeskView → BagView → Type 0
KeeperReads d b authority m state d2 b2 =
    Somewhere d (λ old new. DeskReads d old authority m state new d2) × (b2 ≡ b)

-- seal: a step of the desk without a mark; it counts the entries in the reply as handed out
abbrev pub KeeperSeals : DeskView → BagView → Result Sealed NoMemory → DeskView → BagView → Type 0
KeeperSeals d b result d2 b2 = Somewhere d (λ old new. DeskSeals d old result new d2) × (b2 ≡ b)

-- refresh: a turn of the desk, with the answer that fetches give, where so many more authorities may become known
abbrev pub KeeperRefreshes : World → DeskView → BagView → List ℕ → ℕ → Option (Result Standing BeginRefusal) → ℕ
    → DeskView → BagView → Type 0
KeeperRefreshes world d b authority left (Some told) left2 d2 b2 =
    RefreshesWithin world authority left told left2 d d2 × (b2 ≡ b)
KeeperRefreshes world d b authority left None left2 d2 b2 = ⊥

-- fetch: the desk's work on a job, with nothing handed out or left to spend; nothing without memory for hops
abbrev pub KeeperFetches : World → DeskView → BagView → Job → Option (Result Outcome NoMemory) → DeskView → BagView
    → Type 0
KeeperFetches world d b job (Some (Ok outcome)) d2 b2 = Works world job outcome d d2 × KeepsOut d d2 × (b2 ≡ b)
KeeperFetches world d b job (Some (Err _)) d2 b2 = (d2 ≡ d) × (b2 ≡ b)
KeeperFetches world d b job None d2 b2 = ⊥

-- visit: the desk's visit to the page of a job, where so many more authorities may become known, and so many behind
-- it, with nothing handed out or left to spend
abbrev pub KeeperVisits : World → DeskView → BagView → Job → ℕ → Option Visited → ℕ → DeskView → BagView → Type 0
KeeperVisits world d b job left (Some visited) left2 d2 b2 =
    VisitsPage world job left visited left2 d d2 × KeepsOut d d2 × (b2 ≡ b)
KeeperVisits world d b job left None left2 d2 b2 = ⊥

-- end: each permit of the bag is given back and each fetch finished, in its own step; the bag is empty
abbrev pub KeeperEnds : DeskView → BagView → DeskView → BagView → Type 0
KeeperEnds d b d2 b2 = Clears b d d2 × IsCleared b b2

-- close: the receipts of the desk after its session ended
abbrev pub IsClosed : DeskView → BagView → Receipt → Type 0
IsClosed d b r = (d2 : DeskView) × (Clears b d d2 × (r ≡ receipt_of d2))
