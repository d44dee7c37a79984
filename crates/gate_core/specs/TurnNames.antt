-- Copies of the authorities of turns in flight, for the entries of their arrivals.
-- Used by `TurnNames`.
use Rattle.std.specs.Prelude.{◌≡◌, ℕ, ◌==◌, All, List, Option, Some, if◌then◌else◌}
use Rattle.std.specs.HashMap.{get}
use Rattle.authority_cache.specs.declared.turn.Turn.{Turn}
use Rattle.gate_core.specs.declared.turn_names.TurnNames.{TurnNames}

-- the names by turn number
abbrev pub NamesBy : Type 0
NamesBy = ℕ → Option (List ℕ)

-- the names that are kept
abbrev pub names_by : TurnNames → NamesBy
names_by names turn = get (λ one other. one == other) names.by_turn turn

-- each of these turns has its authority's name
abbrev pub HasNames : NamesBy → List Turn → Type 0
HasNames names turns = All (λ t. names t.turn ≡ Some t.authority) turns

-- the turn has this name now, and the others are unchanged
abbrev pub KeepsName : NamesBy → ℕ → Option (List ℕ) → NamesBy → Type 0
KeepsName old turn name new = (other : ℕ) → new other ≡ (if turn == other then name else old other)
