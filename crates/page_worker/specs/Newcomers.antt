-- Turns where only so many more authorities may become known: those without an answer, of any age.
-- Used by refreshes, jobs and the keepers of sessions; docs/FORMATS.md, `ERR authorities`.
use Rattle.std.specs.Prelude.{◌≡◌, ◌⊎◌, ◌≤◌, ℕ, suc, Bool, true, false, List, Option, None, Some, Result, Ok, Err}
use Rattle.gate_history.specs.Standing.{is_fetching, standing_of}
use Rattle.gate_core.specs.declared.refusal.BeginRefusal.{BeginRefusal}
use Rattle.gate_core.specs.declared.refusal.BeginRefusal.TheVariants as begin
use Rattle.gate_core.specs.declared.state.Standing.{Standing}
use Rattle.gate_core.specs.Gate.{Gate, IsFull, history}
use Rattle.gate_core.specs.Replies.{cannot_know}
use Rattle.gate_lock.specs.Desks.{DeskView, Errand, Looks}
use Rattle.gate_lock.specs.Steps.{DeskBegins, Somewhere}
use Rattle.page_worker.specs.Refreshes.{Brings}
use Rattle.page_worker.specs.World.{World}

-- the gate has no answer of the authority
abbrev pub IsUnknown : Gate → List ℕ → Type 0
IsUnknown g authority = standing_of (history g) authority ≡ None

-- the desk looks whether the gate has none, and nothing changes
abbrev pub LooksFor : DeskView → Gate → List ℕ → Bool → Gate → DeskView → Type 0
LooksFor d old authority true new d2 = IsUnknown old authority × (new ≡ old) × Looks d old d2
LooksFor d old authority false new d2 = (IsUnknown old authority → ⊥) × (new ≡ old) × Looks d old d2

-- how many more authorities may become known, before and after a turn: one less if its authority was unknown
pub record CountsKnown (g : Gate) (authority : List ℕ) (left left2 : ℕ) : Type 0 where
  pub unknown : IsUnknown g authority → left ≡ suc left2
  pub known : (IsUnknown g authority → ⊥) → left2 ≡ left
  pub no_more : left2 ≤ left

-- no more may become known, and this one would
abbrev pub IsShutOut : Gate → List ℕ → ℕ → Type 0
IsShutOut g authority left = IsUnknown g authority × (left ≡ 0)

-- a begin is refused because the authority is shut out, which changes nothing, or as the gate refuses it
abbrev pub RefusesWithin : DeskView → Gate → List ℕ → ℕ → ℕ → BeginRefusal → Gate → DeskView → Type 0
RefusesWithin d old authority m left refusal new d2 =
    (IsShutOut old authority left × (refusal ≡ begin.AuthoritiesFull) × (new ≡ old) × Looks d old d2)
    ⊎ ((IsShutOut old authority left → ⊥) × DeskBegins d old authority m (Err refusal) new d2)

-- begin: an authority that is shut out is refused, and any other begins a turn as at the gate
abbrev pub BeginsWithin :
    DeskView → Gate → List ℕ → ℕ → ℕ → Result Errand BeginRefusal → ℕ → Gate → DeskView → Type 0
BeginsWithin d old authority m left (Ok turn) left2 new d2 =
    CountsKnown old authority left left2 × DeskBegins d old authority m (Ok turn) new d2
BeginsWithin d old authority m left (Err refusal) left2 new d2 =
    (left2 ≡ left) × RefusesWithin d old authority m left refusal new d2

-- a turn of the authority began within the bound and brought an answer that fetches decide
pub record IsRefreshedWithin
    (world : World) (authority : List ℕ) (left : ℕ) (word : Standing) (left2 : ℕ) (old new : DeskView)
    : Type 0 where
  pub turn : Errand
  pub begun : ℕ
  pub between : DeskView
  pub read_begun : world.reads begun
  pub begins :
      Somewhere old (λ before behind. BeginsWithin old before authority begun left (Ok turn) left2 behind between)
  pub brings : Brings world turn word between new

-- a refresh within the bound: a turn brought an answer, or none began
abbrev pub RefreshesWithin :
    World → List ℕ → ℕ → Result Standing BeginRefusal → ℕ → DeskView → DeskView → Type 0
RefreshesWithin world authority left (Ok word) left2 old new =
    IsRefreshedWithin world authority left word left2 old new
RefreshesWithin world authority left (Err refusal) left2 old new =
    (moment : ℕ)
    × Somewhere old (λ before behind. BeginsWithin old before authority moment left (Err refusal) left2 behind new)

-- a job's turn begins, if it is due, within the bound; nothing else counts. A refusal has its cause: a turn
-- of the authority is in flight; the history has no room; the authority is shut out, or the gate's limit is reached.
abbrev pub CountsStale : Gate → List ℕ → ℕ → Result (Option Errand) BeginRefusal → ℕ → Type 0
CountsStale g authority left (Ok (Some turn)) left2 = CountsKnown g authority left left2
CountsStale g authority left (Ok None) left2 = left2 ≡ left
CountsStale g authority left (Err begin.InFlight) left2 = (left2 ≡ left) × (is_fetching (history g) authority ≡ true)
CountsStale g authority left (Err begin.LogFull) left2 = (left2 ≡ left) × IsFull g 2
CountsStale g authority left (Err begin.AuthoritiesFull) left2 =
    (left2 ≡ left) × (IsShutOut g authority left ⊎ (cannot_know g authority ≡ true))
CountsStale g authority left (Err begin.NoMemory) left2 = left2 ≡ left
