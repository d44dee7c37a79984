-- The tables of an audit, and their agreement with a history.
-- RFC 9309, sections 2.3.1 and 2.4.
use Rattle.std.specs.Prelude.{◌≡◌, ℕ, ◌≤◌, ◌==◌, ◌||◌, Bool, true, false, max, nat_lt, not, List, [], ◌∷◌, Option, Some, None, Result, Ok, Err, is_some, if◌then◌else◌}
use Rattle.std.specs.Borrow.{Bor}
use Rattle.std.specs.HashMap.{get}
use Rattle.permit_book.specs.declared.out.Fetch.{Fetch}
use Rattle.permit_book.specs.declared.granted_permit.GrantedPermit.{GrantedPermit}
use Rattle.permit_book.specs.Numbers.{generation_of, slot_of}
use Rattle.permit_book.specs.Outstanding.{ListsEach as ListsPermits, permit_for}
use Rattle.authority_cache.specs.Lists.{TellsCache}
use Rattle.gate_history.specs.declared.base.SlotGrant.{SlotGrant}
use Rattle.gate_history.specs.declared.entry.Entry.{Entry}
use Rattle.gate_history.specs.History.{History, ◌▸◌, begins, entry_count, now, started_count}
use Rattle.gate_history.specs.Legal.{MayFollow, Rises}
use Rattle.gate_history.specs.Outstanding.{grants, running, unspent, was_granted}
use Rattle.gate_history.specs.Standing.{in_flight, standing}
use Rattle.gate_history.specs.Grants.{IsSlotGrant, ListsEach}
use Rattle.crawl_audit.specs.declared.numbers.PermitNumbers.{PermitNumbers}
use Rattle.crawl_audit.specs.declared.numbers.Phase.{Phase}
use Rattle.crawl_audit.specs.declared.numbers.Phase.TheVariants.{Unspent, Running}
use Rattle.crawl_audit.specs.declared.open_state.OpenState.{OpenState}
use Rattle.crawl_audit.specs.declared.unread_line.UnreadLine.{UnreadLine}
use Rattle.crawl_audit.specs.declared.unread_line.UnreadLine.TheVariants.{NoMemory, NotOne}

-- the phase of each outstanding number
abbrev pub Phases : Type 0
Phases = ℕ → Option Phase

-- the phase that the table has for each number
abbrev pub phases_of : PermitNumbers → Phases
phases_of numbers number = get (λ one other. one == other) numbers.out number

-- the number has this phase now, and others are unchanged
abbrev pub KeepsPhase : Phases → ℕ → Option Phase → Phases → Type 0
KeepsPhase old number phase new = (other : ℕ) → new other ≡ (if number == other then phase else old other)

-- the number's permit, if unused
abbrev pub unspent_under : ℕ → Option Phase → List GrantedPermit
unspent_under number (Some (Unspent fetch)) = permit_for number fetch ∷ []
unspent_under number _ = []

-- the number's permit, if its fetch runs
abbrev pub running_under : ℕ → Option Phase → List GrantedPermit
running_under number (Some (Running fetch)) = permit_for number fetch ∷ []
running_under number _ = []

-- the permit is unused
abbrev pub is_unspent_in : Option Phase → Bool
is_unspent_in (Some (Unspent fetch)) = true
is_unspent_in _ = false

-- the fetch, if unused
abbrev pub GivesUnspent : Option Phase → Option (Bor Fetch) → Type 0
GivesUnspent phase None = is_unspent_in phase ≡ false
GivesUnspent phase (Some fetch) = phase ≡ Some (Unspent fetch.now)

-- the fetch is running
abbrev pub is_running_in : Option Phase → Bool
is_running_in (Some (Running fetch)) = true
is_running_in _ = false

-- the greatest generation of each slot in which something was granted
abbrev pub Lasts : Type 0
Lasts = ℕ → Option ℕ

-- the generation that the table has for each slot
abbrev pub lasts_of : PermitNumbers → Lasts
lasts_of numbers slot = get (λ one other. one == other) numbers.by_slot slot

-- the slot has this greatest generation now, and others are unchanged
abbrev pub KeepsLast : Lasts → ℕ → ℕ → Lasts → Type 0
KeepsLast old slot generation new = (other : ℕ) → new other ≡ (if slot == other then Some generation else old other)

-- the greater of a generation and the greatest before it
abbrev pub greatest_with : ℕ → Option ℕ → ℕ
greatest_with generation (Some last) = max generation last
greatest_with generation None = generation

-- the generation is above the greatest before it
abbrev pub is_above : ℕ → Option ℕ → Bool
is_above generation (Some last) = nat_lt last generation
is_above generation None = true

-- the slot's grant of its greatest generation
abbrev pub grants_under : ℕ → Option ℕ → List SlotGrant
grants_under slot (Some generation) = record { slot = slot; generation = generation } ∷ []
grants_under slot None = []

-- the number was noted as granted
abbrev pub is_noted : PermitNumbers → ℕ → Bool
is_noted numbers number = is_some (get (λ one other. one == other) numbers.granted number)

-- the number may be granted: above its slot's greatest generation, or never granted
abbrev pub is_new : PermitNumbers → ℕ → Bool
is_new numbers number =
    if numbers.rising then is_above (generation_of number) (lasts_of numbers (slot_of number))
    else not (is_noted numbers number)

-- the number has this phase now, and nothing else changed
pub record Puts (old : PermitNumbers) (number : ℕ) (phase : Option Phase) (new : PermitNumbers) : Type 0 where
  pub phases : KeepsPhase (phases_of old) number phase (phases_of new)
  pub slots : new.by_slot ≡ old.by_slot
  pub granted : new.granted ≡ old.granted
  pub rising : new.rising ≡ old.rising

-- an unspent permit runs now
abbrev pub StartsRun : PermitNumbers → ℕ → PermitNumbers → Type 0
StartsRun old number new =
    (fetch : Fetch) → phases_of old number ≡ Some (Unspent fetch) → Puts old number (Some (Running fetch)) new

-- the slot has had the number's generation
pub record Raises (old : PermitNumbers) (number : ℕ) (new : PermitNumbers) : Type 0 where
  pub fits : IsSlotGrant (record { slot = slot_of number; generation = generation_of number })
  pub lasts : KeepsLast (lasts_of old) (slot_of number)
      (greatest_with (generation_of number) (lasts_of old (slot_of number))) (lasts_of new)
  pub out : new.out ≡ old.out
  pub granted : new.granted ≡ old.granted
  pub rising : new.rising ≡ old.rising

-- one number more was granted
abbrev pub AddsNumber : PermitNumbers → ℕ → PermitNumbers → Type 0
AddsNumber old number new =
    old.rising ≡ false → (other : ℕ) → is_noted new other ≡ (number == other || is_noted old other)

-- the number is noted
pub record Notes (old : PermitNumbers) (number : ℕ) (new : PermitNumbers) : Type 0 where
  pub granted : AddsNumber old number new
  pub out : new.out ≡ old.out
  pub slots : new.by_slot ≡ old.by_slot
  pub rising : new.rising ≡ old.rising

-- the number was granted for the fetch
pub record Grants (old : PermitNumbers) (number : ℕ) (fetch : Fetch) (new : PermitNumbers) : Type 0 where
  pub phases : KeepsPhase (phases_of old) number (Some (Unspent fetch)) (phases_of new)
  pub lasts : KeepsLast (lasts_of old) (slot_of number)
      (greatest_with (generation_of number) (lasts_of old (slot_of number))) (lasts_of new)
  pub granted : AddsNumber old number new
  pub rising : new.rising ≡ old.rising
  pub fits : IsSlotGrant (record { slot = slot_of number; generation = generation_of number })

-- the list has each unused permit once
abbrev pub ListsUnspent : PermitNumbers → List GrantedPermit → Type 0
ListsUnspent numbers = ListsPermits (λ number. unspent_under number (phases_of numbers number))

-- the list has each running permit once
abbrev pub ListsRunning : PermitNumbers → List GrantedPermit → Type 0
ListsRunning numbers = ListsPermits (λ number. running_under number (phases_of numbers number))

-- the list has each slot's greatest generation once
abbrev pub ListsGrants : PermitNumbers → List SlotGrant → Type 0
ListsGrants numbers = ListsEach (λ slot. grants_under slot (lasts_of numbers slot))

-- the tables agree with the history on numbers and slots; what is outstanding was granted
pub record TellsNumbers (numbers : PermitNumbers) (h : History) : Type 0 where
  pub unspent_are : ListsUnspent numbers (unspent h)
  pub running_are : ListsRunning numbers (running h)
  pub grants_are : ListsGrants numbers (grants h)
  pub granted_are : numbers.rising ≡ false → (number : ℕ) → was_granted h number ≡ is_noted numbers number
  pub out_noted : numbers.rising ≡ false → (number : ℕ) → is_noted numbers number ≡ false
      → phases_of numbers number ≡ None
  pub out_covered : (number : ℕ) → is_above (generation_of number) (lasts_of numbers (slot_of number)) ≡ true
      → phases_of numbers number ≡ None
  pub slots_fit : (slot generation : ℕ) → lasts_of numbers slot ≡ Some generation
      → IsSlotGrant (record { slot = slot; generation = generation })

-- the tables agree with the history
pub record Tells (l : OpenState) (h : History) : Type 0 where
  pub clock_is : l.clock ≡ now h
  pub begins_are : l.begins ≡ begins h
  pub cache_tells : TellsCache l.cache (standing h) (in_flight h)
  pub numbers_tell : TellsNumbers l.numbers h

-- the tables agree with the history, with the counts of its entries and started fetches
pub record TellsAll (l : OpenState) (h : History) : Type 0 where
  pub tells : Tells l h
  pub entries_are : l.entries ≡ entry_count h
  pub started_are : l.started ≡ started_count h
  pub few : l.started ≤ l.entries

-- the counts are unchanged
pub record KeepsCounts (old new : OpenState) : Type 0 where
  pub entries : new.entries ≡ old.entries
  pub started : new.started ≡ old.started

-- the entry may come next: it is legal, and where grants must rise, a grant's generation is above all earlier ones of
-- its slot
pub record MayCome (rising : Bool) (h : History) (e : Entry) : Type 0 where
  pub fit : MayFollow h e
  pub rises : rising ≡ true → Rises h e

-- the tables agree with the longer history, and grants must rise as before
pub record Enters (rising : Bool) (h : History) (new : OpenState) : Type 0 where
  pub tells : Tells new h
  pub still : new.numbers.rising ≡ rising

-- tables and counts agree with the longer history, and grants must rise as before
pub record EntersAll (rising : Bool) (h : History) (new : OpenState) : Type 0 where
  pub tells : TellsAll new h
  pub still : new.numbers.rising ≡ rising

-- the entry may come next and the tables have it, or it may not, or memory was refused
abbrev pub FollowsLegally : OpenState → History → Entry → Result (Unit {0}) UnreadLine → OpenState → Type 0
FollowsLegally old h e (Ok _) new = MayCome old.numbers.rising h e × Enters old.numbers.rising (h ▸ e) new
FollowsLegally old h e (Err NotOne) new = MayCome old.numbers.rising h e → ⊥
FollowsLegally old h e (Err NoMemory) new = Unit {0}

-- like `FollowsLegally`, for the tables and the counts
abbrev pub EntersLegally : OpenState → History → Entry → Result Bool UnreadLine → OpenState → Type 0
EntersLegally old h e (Ok _) new = MayCome old.numbers.rising h e × EntersAll old.numbers.rising (h ▸ e) new
EntersLegally old h e (Err NotOne) new = MayCome old.numbers.rising h e → ⊥
EntersLegally old h e (Err NoMemory) new = Unit {0}
