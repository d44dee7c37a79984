-- What a session at its bounds is refused: docs/FORMATS.md, `ERR permits`, `ERR authorities`, `ERR log`.
-- Cited by `Bounds` and `DeskKeeper`.
use Rattle.std.specs.Prelude.{◌≡◌, ◌⊎◌, ℕ, ◌+◌, ◌<◌, ◌^◌, ◌-◌, Bool, true, false, nat_lt, not, length, List, [], ◌∷◌, Option, Some, None, Result, Ok, Err}
use Rattle.path_normal.specs.PageText.{authority_of}
use Rattle.gate_core.specs.declared.refusal.AskRefusal.{AskRefusal}
use Rattle.gate_core.specs.declared.refusal.BeginRefusal.{BeginRefusal}
use Rattle.gate_core.specs.declared.refusal.BeginRefusal.TheVariants as begin
use Rattle.gate_core.specs.declared.refusal.NoMemory.{NoMemory}
use Rattle.gate_core.specs.declared.state.Standing.{Standing}
use Rattle.permit_bag.specs.Bags.{BagView}
use Rattle.gate_lock.specs.Desks.{DeskView}
use Rattle.gate_lock.specs.Steps.{Somewhere}
use Rattle.crawl_job.specs.declared.hop.Hop.TheVariants as hops
use Rattle.crawl_job.specs.declared.hop.Refusal.{Refusal}
use Rattle.crawl_job.specs.declared.job.Job.{Job}
use Rattle.crawl_job.specs.declared.job.Outcome.{Outcome}
use Rattle.page_worker.specs.declared.visiting.Visited.{Visited}
use Rattle.page_worker.specs.declared.visiting.Visited.TheVariants as visiteds
use Rattle.page_worker.specs.Newcomers.{LooksFor}
use Rattle.page_worker.specs.Visits.{visit_without}
use Rattle.keepers.specs.declared.bounds.Bounds.{Bounds}

-- no bound that a session could meet
pub record are_all (bounds : Bounds) : Type 0 where
  pub permits : bounds.permits ≡ 2 ^ 64 - 1
  pub authorities : bounds.authorities ≡ 2 ^ 64 - 1
  pub entries : bounds.entries ≡ 2 ^ 64 - 1

-- whether a session has reached a bound
abbrev pub has_enough : (most count : ℕ) → Bool
has_enough most count = not (nat_lt count most)

-- how many entries a desk made after the first so many
abbrev pub made_since : ℕ → DeskView → ℕ
made_since begun d = length d.sealed.places + length d.marks - begun

-- a call is refused if the session has enough, else made
abbrev pub Bounded : (enough : Bool) (refused made : Type 0) → Type 0
Bounded enough refused made = ((enough ≡ true) × refused) ⊎ ((enough ≡ false) × made)

-- the desk looked whether the gate has an answer of the authority, of any age
abbrev pub Looked : DeskView → List ℕ → (unknown : Bool) → DeskView → Type 0
Looked d authority unknown d2 = Somewhere d (λ old new. LooksFor d old authority unknown new d2)

-- fetch: where no more authorities may become known, it is refused if the page's has no answer at this moment, and
-- made if it has one; else it is made
abbrev pub BoundedFetch : (left : ℕ) → DeskView → Job → (refused made : DeskView → Type 0) → Type 0
BoundedFetch left d job refused made =
    ((left ≡ 0) × ((d1 : DeskView) × (Looked d (authority_of job.url) true d1 × refused d1)))
    ⊎ (((left ≡ 0) × ((d1 : DeskView) × (Looked d (authority_of job.url) false d1 × made d1)))
    ⊎ ((0 < left) × made d))

-- nothing was done
abbrev pub Stays : DeskView → BagView → DeskView → BagView → Type 0
Stays d b d2 b2 = (d2 ≡ d) × (b2 ≡ b)

-- ask: it is refused so, and nothing is asked
abbrev pub RefusesAsk : AskRefusal → DeskView → BagView → Result ℕ AskRefusal → DeskView → BagView → Type 0
RefusesAsk refusal d b result d2 b2 = (result ≡ Err refusal) × Stays d b d2 b2

-- refresh: with the most entries made it is refused, and nothing is fetched
abbrev pub RefusesRefresh :
    DeskView → BagView → ℕ → Option (Result Standing BeginRefusal) → ℕ → DeskView → BagView → Type 0
RefusesRefresh d b left told left2 d2 b2 = (told ≡ Some (Err begin.LogFull)) × (left2 ≡ left) × Stays d b d2 b2

-- a refused fetch: one hop that says why nothing was fetched
pub record IsRefused (refusal : Refusal) (outcome : Outcome) : Type 0 where
  pub hops_are : outcome.hops.items ≡ hops.Err refusal ∷ []
  pub body_is : outcome.body.items ≡ []

-- the refused outcome, given memory for its hop
abbrev pub TellsRefused : Refusal → Option (Result Outcome NoMemory) → Type 0
TellsRefused refusal (Some (Ok outcome)) = IsRefused refusal outcome
TellsRefused refusal (Some (Err _)) = Unit {0}
TellsRefused refusal None = ⊥

-- fetch: it is refused so, and nothing is fetched
abbrev pub RefusesFetch : Refusal → DeskView → BagView → Option (Result Outcome NoMemory) → DeskView → BagView → Type 0
RefusesFetch refusal d b told d2 b2 = TellsRefused refusal told × Stays d b d2 b2

-- visit: it is refused so, and nothing is fetched
abbrev pub RefusesVisit : Refusal → DeskView → BagView → Option Visited → DeskView → BagView → Type 0
RefusesVisit refusal d b told d2 b2 = (told ≡ Some (visiteds.Done (visit_without (hops.Err refusal)))) × Stays d b d2 b2
