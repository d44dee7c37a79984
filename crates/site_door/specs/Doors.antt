-- The doors of sites: who is let in, and what is changed by a visit that enters or leaves.
-- Used by `Doors`; moments are in milliseconds.
use Rattle.std.specs.Prelude.{◌≡◌, ◌≢◌, ◌⊎◌, ◌+◌, ◌-◌, ◌==◌, ◌&&◌, ◌||◌, ℕ, Bool, List, Option, None, Some, Result, Ok, Err, if◌then◌else◌, length, map, max, min, nat_le, nat_lt, string_bytes, unwrap_or}
use Rattle.std.specs.Map.{lookup}
use Rattle.std.specs.HashMap.{HashMap, get_by_text}
use Rattle.std.specs.Str.{bytes_eq}
use Rattle.std.specs.declared.string.String.{String}
use Rattle.site_door.specs.Limits.{most_sites, never}
use Rattle.site_door.specs.declared.admission.Admission.{Admission}
use Rattle.site_door.specs.declared.admission.Admission.TheVariants.{Admitted, Full, Later}
use Rattle.site_door.specs.declared.admission.NoDoor.{NoDoor}
use Rattle.site_door.specs.declared.admission.NoDoor.TheVariants.{NoMemory, TooManySites}
use Rattle.site_door.specs.declared.door.DoorState.{DoorState}
use Rattle.site_door.specs.declared.manners.Manners.{Manners}
use Rattle.site_door.specs.declared.manners.AskedPauses.{AskedPauses}
use Rattle.site_door.specs.declared.manners.AskedPauses.TheVariants.{Ignored, Kept}

-- a door at which nothing is under way, and nothing waits
abbrev pub no_door : DoorState
no_door = record { under_way = 0; next = 0 }

-- the door at which nothing begins before this moment
abbrev pub later : ℕ → DoorState → DoorState
later now door = record { under_way = door.under_way; next = max door.next now }

-- nothing is under way, and the next visit may begin
abbrev pub is_idle : ℕ → DoorState → Bool
is_idle now door = (door.under_way == 0) && nat_le door.next now

-- a moment so many milliseconds later, or never
abbrev pub sum_or_never : ℕ → ℕ → ℕ
sum_or_never now milliseconds = min (now + milliseconds) never

-- what a door answers: it is too early, or let in, or as many are under way as may be
abbrev pub admission_of : Manners → DoorState → ℕ → Admission
admission_of manners door now =
    if nat_lt now door.next || nat_le never now then Later (max door.next now)
    else if nat_lt door.under_way manners.most then Admitted else Full

-- the door after a visit was let in: one more is under way, and the next begins after the delay
abbrev pub entered_by : Manners → ℕ → DoorState → DoorState
entered_by manners now door = record { under_way = door.under_way + 1; next = sum_or_never now manners.delay }

-- when a pause ends, if pauses are kept
abbrev pub pause_end_by : AskedPauses → ℕ → Option ℕ → ℕ
pause_end_by Kept now (Some pause) = sum_or_never now pause
pause_end_by Kept now None = 0
pause_end_by Ignored now pause = 0

-- the same under these manners
abbrev pub pause_end : Manners → ℕ → Option ℕ → ℕ
pause_end manners now pause = pause_end_by manners.pauses now pause

-- the door after a visit has left: one less is under way, and the next begins after the pause. Where none is under
-- way nothing changes
abbrev pub left_by : Manners → ℕ → Option ℕ → DoorState → DoorState
left_by manners now pause door =
    if door.under_way == 0 then door
    else record { under_way = door.under_way - 1; next = max door.next (pause_end manners now pause) }

-- the doors as their callers see them: the manners, the latest moment, and the sites that take memory
pub record DoorsView : Type 0 where
  pub manners : Manners
  pub latest : ℕ
  pub sites : List (List ℕ × DoorState)

-- how many sites take memory
abbrev pub kept_count : DoorsView → ℕ
kept_count doors = length doors.sites

-- the door of a site: nothing begins before the latest moment
abbrev pub door_of : DoorsView → List ℕ → DoorState
door_of doors site = later doors.latest (unwrap_or (lookup (bytes_eq site) doors.sites) no_door)

-- the site's door in a table, at this moment or later
abbrev pub door_in : {Y S : Type 0} → ℕ → HashMap (String Y) DoorState S → List ℕ → DoorState
door_in latest sites site = later latest (unwrap_or (get_by_text sites site) no_door)

-- the entries of a table, as they are seen
abbrev pub sites_in : {Y S : Type 0} → HashMap (String Y) DoorState S → List (List ℕ × DoorState)
sites_in sites = map (λ e. (string_bytes e.0, e.1)) sites.entries

-- no visit was let in yet
pub record IsNew (manners : Manners) (doors : DoorsView) : Type 0 where
  pub heeds : doors.manners ≡ manners
  pub none : (site : List ℕ) → door_of doors site ≡ no_door

-- the site's door is set at this moment; those of other sites are as they were, and nothing begins before it
pub record Sets (old : DoorsView) (now : ℕ) (site : List ℕ) (door : DoorState) (new : DoorsView) : Type 0 where
  pub manners : new.manners ≡ old.manners
  pub doors : (other : List ℕ) → door_of new other ≡ later now (if bytes_eq site other then door else door_of old other)

-- no door is set, so only time passes
pub record Waits (old : DoorsView) (now : ℕ) (new : DoorsView) : Type 0 where
  pub manners : new.manners ≡ old.manners
  pub doors : (other : List ℕ) → door_of new other ≡ later now (door_of old other)

-- why a visit that would be let in has no door: none is under way, and there is no room or no memory
abbrev pub HasNoDoor : NoDoor → DoorState → ℕ → Type 0
HasNoDoor TooManySites door kept = (door.under_way ≡ 0) × (kept ≡ most_sites)
HasNoDoor NoMemory door kept = door.under_way ≡ 0

-- enter: let in exactly if the door says so, unless there is no room or no memory for it
abbrev pub Enters : DoorsView → List ℕ → ℕ → Result Admission NoDoor → DoorsView → Type 0
Enters old site now (Ok Admitted) new =
    (admission_of old.manners (door_of old site) now ≡ Admitted)
    × Sets old now site (entered_by old.manners now (door_of old site)) new
Enters old site now (Ok (Later at)) new =
    (admission_of old.manners (door_of old site) now ≡ Later at) × Waits old now new
Enters old site now (Ok Full) new = (admission_of old.manners (door_of old site) now ≡ Full) × Waits old now new
Enters old site now (Err none) new =
    (admission_of old.manners (door_of old site) now ≡ Admitted) × HasNoDoor none (door_of old site) (kept_count new)
    × Waits old now new

-- a visit of this site was let in, and knows the site
abbrev pub IsLetIn : DoorsView → List ℕ → ℕ → List ℕ → DoorsView → Type 0
IsLetIn old site now visited new = (visited ≡ site) × Enters old site now (Ok Admitted) new

-- a visit was not let in: there was no memory for it, or the door gave another answer
abbrev pub IsNotLetIn : DoorsView → List ℕ → ℕ → DoorsView → Type 0
IsNotLetIn old site now new =
    (new ≡ old) ⊎ ((reply : Result Admission NoDoor) × (reply ≢ Ok Admitted) × Enters old site now reply new)

-- leave: one visit less of this site, if one was under way
abbrev pub Leaves : DoorsView → List ℕ → ℕ → Option ℕ → DoorsView → Type 0
Leaves old site now pause new = Sets old now site (left_by old.manners now pause (door_of old site)) new

-- a visit was under way, and the door is idle once it has left
abbrev pub is_left_idle : DoorsView → List ℕ → ℕ → Option ℕ → Bool
is_left_idle old site now pause =
    nat_lt 0 (door_of old site).under_way
    && is_idle (max old.latest now) (left_by old.manners now pause (door_of old site))
