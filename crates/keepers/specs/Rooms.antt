-- What is refused where a gate's records have no room: docs/FORMATS.md, `ERR log` and `ERR memory`.
-- Cited by `DeskKeeper`.
use Rattle.std.specs.Prelude.{◌⊎◌, Bool, true, false, Result, IsErr}
use Rattle.gate_history.specs.Segment.{Sealed}
use Rattle.gate_core.specs.declared.refusal.NoMemory.{NoMemory}
use Rattle.permit_bag.specs.Bags.{BagView}
use Rattle.gate_lock.specs.Desks.{DeskView}
use Rattle.keepers.specs.Bounding.{Stays}

-- the records have no room, and the call is refused; or they have, and it is made
abbrev pub InRoom : (rooms : Bool → Type 0) → (refused made : Type 0) → Type 0
InRoom rooms refused made = (rooms false × refused) ⊎ (rooms true × made)

-- seal: it is refused, and nothing is handed out
abbrev pub RefusesSeal : DeskView → BagView → Result Sealed NoMemory → DeskView → BagView → Type 0
RefusesSeal d b result d2 b2 = IsErr result × Stays d b d2 b2
