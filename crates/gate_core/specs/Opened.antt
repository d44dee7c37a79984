-- The last steps of a begin and of an ask, after all checks.
-- Used by `grant`, and by the proof of `Book::begin`.
use Rattle.std.specs.Prelude.{◌≡◌, ℕ, ◌+◌, ◌<◌, ◌≤◌, true, false, List, Result, Ok, Err}
use Rattle.path_normal.specs.PageText.{authority_of}
use Rattle.permit_book.specs.declared.out.SlotContent.TheVariants.{Unspent}
use Rattle.permit_book.specs.Next.{IsNext as IsNextIn, NoneFree as NoneFreeIn}
use Rattle.permit_book.specs.Table.{Table, with_out}
use Rattle.gate_history.specs.declared.entry.Entry.TheVariants.{Begun, Granted}
use Rattle.gate_history.specs.History.{begins}
use Rattle.gate_core.specs.declared.refusal.AskRefusal.{AskRefusal}
use Rattle.gate_core.specs.declared.refusal.AskRefusal.TheVariants as ask
use Rattle.gate_core.specs.declared.refusal.BeginRefusal.{BeginRefusal}
use Rattle.gate_core.specs.declared.refusal.BeginRefusal.TheVariants as begin
use Rattle.gate_core.specs.Gate.{Adds, Gate, history, Stays}
use Rattle.gate_core.specs.PlaceCounts.{AddsOne}
use Rattle.gate_core.specs.Replies.{cannot_know, HasPlace, IsBusy, IsNext, NoneFree}

-- the turn begins at this moment, or the authority can't become known, or memory was refused
abbrev pub OpensTurn : Gate → List ℕ → ℕ → Result ℕ BeginRefusal → Gate → Type 0
OpensTurn old authority moment (Ok turn) new =
    (cannot_know old authority ≡ false) × (turn ≡ begins (history old) + 1) × Adds old (Begun moment authority turn) new
OpensTurn old authority moment (Err begin.AuthoritiesFull) new = (cannot_know old authority ≡ true) × Stays old new
OpensTurn old authority moment (Err begin.NoMemory) new = Stays old new
OpensTurn old authority moment (Err _) new = ⊥

-- the permit is granted at this moment; or the authority has no place, or no slot is free, or memory was refused
abbrev pub Grants : Gate → List ℕ → List ℕ → ℕ → Result ℕ AskRefusal → Gate → Type 0
Grants old token url moment (Ok number) new =
    HasPlace old url × IsNext old number × Adds old (Granted moment number (record { token = token; url = url })) new
Grants old token url moment (Err ask.PermitsFull) new = HasPlace old url × NoneFree old × Stays old new
Grants old token url moment (Err ask.Busy) new = IsBusy old url × Stays old new
Grants old token url moment (Err ask.NoMemory) new = Stays old new
Grants old token url moment (Err _) new = ⊥

-- why no permit is taken: the authority, with this many, is at its limit, or no slot is free, or memory was refused
abbrev pub RefusesGrant : Table → ℕ → ℕ → AskRefusal → Type 0
RefusesGrant t held most ask.Busy = most ≤ held
RefusesGrant t held most ask.PermitsFull = (held < most) × NoneFreeIn t
RefusesGrant t held most ask.NoMemory = Unit {0}
RefusesGrant t held most _ = ⊥

-- the table's next permit is granted for the URL and token, and counted at its authority
pub record TakesPermit (t : Table) (held : List ℕ → ℕ) (most : ℕ) (token url : List ℕ) (number : ℕ)
    (t2 : Table) (held2 : List ℕ → ℕ) : Type 0 where
  pub place : held (authority_of url) < most
  pub next : IsNextIn t number
  pub granted : t2 ≡ with_out t number (Unspent (record { token = token; url = url }))
  pub counted : AddsOne held (authority_of url) held2

-- none is granted, for this reason, and none is counted
pub record TakesNone (t : Table) (held : List ℕ → ℕ) (most : ℕ) (url : List ℕ) (refusal : AskRefusal)
    (t2 : Table) (held2 : List ℕ → ℕ) : Type 0 where
  pub refused : RefusesGrant t (held (authority_of url)) most refusal
  pub same : t2 ≡ t
  pub uncounted : held2 ≡ held
