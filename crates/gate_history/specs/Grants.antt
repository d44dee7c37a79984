-- The greatest generations granted, as a list of slots.
-- Used by the definition of a base, and by seals and audits.
use Rattle.std.specs.Prelude.{◌≡◌, ℕ, ◌<◌, ◌≤◌, ◌==◌, Bool, not, ◌&&◌, nat_le, max, List, [], ◌∷◌, ◌++◌, if◌then◌else◌, filter}
use Rattle.std.specs.List.{list_any}
use Rattle.permit_book.specs.Numbers.{generation_of, last_generation, most_slots, slot_of}
use Rattle.gate_history.specs.declared.base.SlotGrant.{SlotGrant}

-- a possible slot and generation
abbrev pub IsSlotGrant : SlotGrant → Type 0
IsSlotGrant g = (g.slot < most_slots) × (g.generation ≤ last_generation)

-- the grant was in this slot
abbrev pub is_in : ℕ → SlotGrant → Bool
is_in slot grant = grant.slot == slot

-- the list has for each slot these grants
abbrev pub ListsEach : (ℕ → List SlotGrant) → List SlotGrant → Type 0
ListsEach grants_of grants = (slot : ℕ) → filter (is_in slot) grants ≡ grants_of slot

-- the grant's generation if it was in this slot, else 0
abbrev pub generation_in : ℕ → SlotGrant → ℕ
generation_in slot grant = if is_in slot grant then grant.generation else 0

-- the slot's greatest generation; 0 if nothing was granted
abbrev pub greatest_of : List SlotGrant → ℕ → ℕ
greatest_of [] slot = 0
greatest_of (grant ∷ grants) slot = max (generation_in slot grant) (greatest_of grants slot)

-- the slot had a grant of this generation or later
abbrev pub is_covered : List SlotGrant → ℕ → Bool
is_covered grants number =
    list_any (is_in (slot_of number)) grants && nat_le (generation_of number) (greatest_of grants (slot_of number))

-- the greatest generations after this grant
abbrev pub with_grant : ℕ → List SlotGrant → List SlotGrant
with_grant number grants =
    filter (λ grant. not (is_in (slot_of number) grant)) grants
    ++ record { slot = slot_of number; generation = max (generation_of number) (greatest_of grants (slot_of number)) }
    ∷ []
