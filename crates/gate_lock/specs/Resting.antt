-- What a lock says of a gate that is at rest: nothing is out.
-- Cited by `Held::at_rest` and the settlement.
use Rattle.std.specs.Prelude.{◌≡◌, ℕ, List, [], Option, None, Some}
use Rattle.gate_history.specs.History.{History, entry_count, started_count}
use Rattle.gate_history.specs.Outstanding.{running, unspent}
use Rattle.gate_history.specs.Standing.{in_flight}
use Rattle.gate_core.specs.Gate.{Gate, history}

-- nothing is out
pub record NothingOut (h : History) : Type 0 where
  pub no_permit : unspent h ≡ []
  pub no_run : running h ≡ []
  pub no_turn : in_flight h ≡ []

-- a gate's entries and started fetches, since its first entry
pub record Totals : Type 0 where
  pub events : ℕ
  pub starts : ℕ

-- these are the totals of a gate at rest
pub record AreTotals (g : Gate) (t : Totals) : Type 0 where
  pub nothing_out : NothingOut (history g)
  pub events_are : t.events ≡ entry_count (history g)
  pub starts_are : t.starts ≡ started_count (history g)

-- a gate's totals, if it is at rest
abbrev pub Rests : Gate → Option Totals → Type 0
Rests g (Some t) = AreTotals g t
Rests g None = NothingOut (history g) → ⊥
