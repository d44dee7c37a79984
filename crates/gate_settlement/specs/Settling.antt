-- When a gate is settled: nothing is out, and the receipts of its desks are its history.
-- Cited by `settle`.
use Rattle.std.specs.Prelude.{◌≡◌, List, [], length, Ok, Err, Result}
use Rattle.gate_history.specs.declared.entry.Entry.{Entry}
use Rattle.gate_history.specs.Base.{empty_base}
use Rattle.gate_history.specs.History.{followed_by, from, started_count}
use Rattle.gate_history.specs.Legal.{IsLegal}
use Rattle.gate_core.specs.Gate.{Gate, HasLegalHistory, history}
use Rattle.gate_lock.specs.Resting.{AreTotals, NothingOut, Totals}
use Rattle.gate_marks.specs.Fitting.{MarksFit}
use Rattle.gate_marks.specs.Marks.{Receipt, handed_at_all, starts_of_all}
use Rattle.gate_settlement.specs.declared.settlement.SettleFault.{SettleFault}
use Rattle.gate_settlement.specs.declared.settlement.SettleFault.TheVariants.{Mismatch, NoMemory, StillOut}

-- the receipts are the gate's history: they fit it, have as many started fetches, and handed out all that was sealed
pub record AreHistory (g : Gate) (rs : List Receipt) : Type 0 where
  pub fit : MarksFit g.base.entries g.entries rs
  pub starts : starts_of_all rs ≡ started_count (history g)
  pub handed : handed_at_all rs ≡ g.base.entries

-- the gate is settled: nothing is out, and the receipts are its history
pub record IsSettled (g : Gate) (rs : List Receipt) (s : Totals) : Type 0 where
  pub are : AreHistory g rs
  pub totals_are : AreTotals g s

-- why a gate is not settled: StillOut if something is out; Mismatch if the receipts are not its history
abbrev pub IsUnsettled : Gate → List Receipt → SettleFault → Type 0
IsUnsettled g rs StillOut = NothingOut (history g) → ⊥
IsUnsettled g rs Mismatch = NothingOut (history g) × (AreHistory g rs → ⊥)
IsUnsettled g rs NoMemory = NothingOut (history g)

-- the settlement of a gate
abbrev pub Settles : Gate → List Receipt → Result Totals SettleFault → Type 0
Settles g rs (Ok s) = IsSettled g rs s
Settles g rs (Err fault) = IsUnsettled g rs fault

-- receipts are a whole history on their own: it begins empty, is legal and leaves nothing out; its entries are the
-- marks, at their places; and the settled numbers are its own
pub record IsWhole (rs : List Receipt) (s : Totals) : Type 0 where
  pub entries : List Entry
  pub legal : IsLegal (followed_by (from empty_base) entries)
  pub nothing_out : NothingOut (followed_by (from empty_base) entries)
  pub fit : MarksFit 0 entries rs
  pub events_are : s.events ≡ length entries
  pub starts_are : s.starts ≡ started_count (followed_by (from empty_base) entries)

-- receipts are a whole history if nothing was handed out
abbrev pub IsWholeUnlessSealed : List Receipt → Totals → Type 0
IsWholeUnlessSealed rs s = handed_at_all rs ≡ 0 → IsWhole rs s

-- the settlement of some gate of the lock, with a legal history
abbrev pub SettlesSome : List Receipt → Result Totals SettleFault → Type 0
SettlesSome rs result = (g : Gate) × (HasLegalHistory g × Settles g rs result)
