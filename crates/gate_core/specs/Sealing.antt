-- What sealing hands out and leaves: the entries with their base, and a book that continues from the base that they
-- lead to. RFC 9309, sections 2.3.1 and 2.4.
use Rattle.std.specs.Prelude.{◌≡◌, ℕ, ◌==◌, List, [], ◌∷◌, Result, Ok, Err, if◌then◌else◌}
use Rattle.permit_book.specs.Table.{Table, last_in}
use Rattle.gate_history.specs.declared.base.SlotGrant.{SlotGrant}
use Rattle.gate_history.specs.declared.entry.Entry.{Entry}
use Rattle.gate_history.specs.Grants.{ListsEach}
use Rattle.gate_history.specs.History.{from}
use Rattle.gate_history.specs.Seal.{SaysAs}
use Rattle.gate_history.specs.Segment.{Sealed, nothing_sealed}
use Rattle.gate_core.specs.declared.refusal.NoMemory.{NoMemory}
use Rattle.gate_core.specs.Gate.{Gate, Stays, history}

-- the book continues from a base that says what its history did
pub record GoesOn (old new : Gate) : Type 0 where
  pub limits : new.limits ≡ old.limits
  pub entries : new.entries ≡ []
  pub says : SaysAs (from new.base) (history old)

-- nothing is handed out without entries; else they are, with their base
abbrev pub HandsOut : List Entry → Gate → Sealed → Gate → Type 0
HandsOut [] old sealed new = (sealed ≡ nothing_sealed) × Stays old new
HandsOut (e ∷ later) old sealed new = (sealed ≡ record { base = old.base; entries = old.entries }) × GoesOn old new

-- the reply of sealing, and its effect
abbrev pub Seals : Gate → Result Sealed NoMemory → Gate → Type 0
Seals old (Ok sealed) new = HandsOut old.entries old sealed new
Seals old (Err refusal) new = Stays old new

-- the greatest generation of a slot in which something was granted
abbrev pub grants_at : ℕ → ℕ → List SlotGrant
grants_at slot last = if last == 0 then [] else record { slot = slot; generation = last } ∷ []

-- the list has each slot's greatest generation
abbrev pub ListsGrants : Table → List SlotGrant → Type 0
ListsGrants t = ListsEach (λ slot. grants_at slot (last_in t slot))
