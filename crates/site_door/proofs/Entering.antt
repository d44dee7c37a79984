-- What a call on the doors answers, from what it does to the table.
-- Used by `Doors::enter` and `Doors::leave`.
use Rattle.std.proofs.Common.{◌≡◌, ◌∙◌, ◌≤◌, ◌&&◌, ◌-◌, ◌==◌, ℕ, Bool, true, false, cond, List, Option, Ok, max, refl, sym, ap, arith, true≢false, length}
use Rattle.std.specs.HashMap.{HashMap}
use Rattle.std.proofs.lemmas.Bool.{eqb-false}
use Rattle.std.specs.declared.string.String.{String}
use Rattle.site_door.specs.declared.admission.Admission.{Admission}
use Rattle.site_door.specs.declared.admission.Admission.TheVariants.{Admitted, Full, Later}
use Rattle.site_door.specs.declared.admission.NoDoor.{NoDoor}
use Rattle.site_door.specs.declared.admission.NoDoor.TheVariants.{NoMemory, TooManySites}
use Rattle.site_door.specs.declared.door.DoorState.{DoorState}
use Rattle.site_door.specs.declared.manners.Manners.{Manners}
use Rattle.site_door.specs.Doors.{DoorsView, Enters, Waits, admission_of, door_in, door_of, entered_by, kept_count, left_by, pause_end, HasNoDoor}
use Rattle.site_door.proofs.Tabling.{door_seen, many_seen, seen}
use Rattle.site_door.proofs.Visiting.{may_enter, next_left}

-- a visit that is not let in changes nothing
pub refuses : (old new : DoorsView) (site : List ℕ) (now : ℕ) (reply : Admission) → reply ≡ admission_of old.manners (door_of old site) now
    → (reply ≡ Admitted → ⊥) → Waits old now new → Enters old site now (Ok reply) new
refuses old new site now Admitted is not waits = absurd (not refl)
refuses old new site now Full is not waits = (sym is, waits)
refuses old new site now (Later at) is not waits = (sym is, waits)

-- the door that a visit has left is no sooner than the latest moment
pub left_late : {Y S : Type 0} (manners : Manners) (latest now : ℕ) (table : HashMap (String Y) DoorState S) (site : List ℕ) (pause : Option ℕ)
    → latest ≤ max (left_by manners now pause (door_of (seen manners latest table) site)).next now
left_late manners latest now table site pause =
    let low = next_left manners now pause (door_of (seen manners latest table) site) in
    omega (arith, low)

pub counts_if : (some idle : Bool) → some ≡ true → ◌≡◌ {A = ℕ} (cond (some && idle) 1 0) (cond idle 1 0)
counts_if true idle is = refl
counts_if false idle is = absurd (true≢false (sym is))

pub counts_none : (some idle : Bool) → some ≡ false → ◌≡◌ {A = ℕ} (cond (some && idle) 1 0) 0
counts_none false idle is = refl
counts_none true idle is = absurd (true≢false is)

-- a door at which no visit is under way stays
pub none_leaves : (manners : Manners) (now : ℕ) (pause : Option ℕ) (door : DoorState) → door.under_way ≤ 0 → left_by manners now pause door ≡ door
none_leaves manners now pause door none = by (door.under_way == 0) refl
  where
    by : (zero : Bool) → (door.under_way == 0) ≡ zero
        → cond zero door (record { under_way = door.under_way - 1; next = max door.next (pause_end manners now pause) }) ≡ door
    by true is = refl
    by false is = let some = eqb-false door.under_way 0 is in absurd (some (omega (arith, none)))

-- why there is no door, as it is seen
pub none_seen : {Y S : Type 0} (manners : Manners) (latest after : ℕ) (old new : HashMap (String Y) DoorState S) (site : List ℕ) (none : NoDoor)
    → HasNoDoor none (door_in after old site) (length new.entries) → HasNoDoor none (door_of (seen manners latest old) site) (kept_count (seen manners after new))
none_seen manners latest after old new site TooManySites has =
    (ap (λ (door : DoorState). door.under_way) (door_seen manners latest old site) ∙ has.0, many_seen manners after new ∙ has.1)
none_seen manners latest after old new site NoMemory has = ap (λ (door : DoorState). door.under_way) (door_seen manners latest old site) ∙ has

-- a visit that is let in comes no sooner than the latest moment
pub enter_late : {Y S : Type 0} (manners : Manners) (latest now : ℕ) (table : HashMap (String Y) DoorState S) (site : List ℕ)
    → admission_of manners (door_of (seen manners latest table) site) now ≡ Admitted
    → latest ≤ max (entered_by manners now (door_of (seen manners latest table) site)).next now
enter_late manners latest now table site may =
    let early = (may_enter manners (door_of (seen manners latest table) site) now may).early in omega (arith, early)
