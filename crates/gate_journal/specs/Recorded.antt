-- What a journal records of a locked gate.
-- Used by `Recording`.
use Rattle.std.specs.Prelude.{◌≡◌, ℕ, List}
use Rattle.gate_history.specs.History.{entry_count}
use Rattle.gate_core.specs.Gate.{Gate, history}
use Rattle.gate_core.specs.declared.config.Limits.{Limits}
use Rattle.gate_lock.specs.Desks.{IsGateOf}
use Rattle.history_text.specs.Exports.{present_segment}
use Rattle.history_text.specs.SpellBase.{spell_segment}
use Rattle.journal.specs.declared.position.JournalPosition.{JournalPosition}
use Rattle.gate_journal.specs.Follows.{SpellsTo}

-- where the text of a gate's whole history ends
abbrev pub place_of : Gate → JournalPosition
place_of g = record { begun = g.base.entries; spelled = entry_count (history g) }

-- holds of some gate under a lock with these limits
abbrev pub OfSome : Limits → (Gate → Type 0) → Type 0
OfSome limits P = (g : Gate) × (IsGateOf limits 0 g × P g)

-- the text is that of entries of the gate which the files lack, up to the place
abbrev pub SpellsUpTo : JournalPosition → List ℕ → JournalPosition → Gate → Type 0
SpellsUpTo old text next g = SpellsTo old (present_segment g) text next

-- the text is the gate's base and its entries since
abbrev pub BeginsWith : List ℕ → JournalPosition → Gate → Type 0
BeginsWith text place g = (text ≡ spell_segment (present_segment g)) × (place ≡ place_of g)
