-- Doors in a table, after an entry was written or taken out.
-- Used by the functions of `table.rt`.
use Rattle.std.proofs.Common.{◌≡◌, ◌∙◌, ◌≤◌, ◌==◌, ◌&&◌, ℕ, Bool, true, false, cond, List, [], ◌∷◌, map, length, Some, None, max, string_bytes, unwrap_or, refl, sym, ap, arith, true≢false}
use Rattle.std.specs.Prelude.{nat_le}
use Rattle.std.specs.declared.string.String.{String}
use Rattle.std.specs.HashMap.{HashMap, get_by_text}
use Rattle.std.specs.Str.{bytes_eq}
use Rattle.std.proofs.lemmas.Bool.{eqb-true, leb-true}
use Rattle.std.proofs.lemmas.List.{length-map}
use Rattle.std.proofs.lemmas.Slice.Eq.{bytes_eq-Decides}
use Rattle.site_door.specs.declared.door.DoorState.{DoorState}
use Rattle.std.specs.Map.{lookup}
use Rattle.site_door.specs.declared.manners.Manners.{Manners}
use Rattle.site_door.specs.Doors.{DoorsView, Sets, Waits, door_in, door_of, is_idle, kept_count, later, no_door, sites_in}

pub later_twice : (latest : ℕ) (door : DoorState) → later latest (later latest door) ≡ later latest door
later_twice latest door =
    let same : max (max door.next latest) latest ≡ max door.next latest = omega arith in
    ap (λ (next : ℕ). record { under_way = door.under_way; next = next }) same

pub idle_parts : (a b : Bool) → (a && b) ≡ true → (a ≡ true) × (b ≡ true)
idle_parts true true both = (refl, refl)
idle_parts true false both = absurd (true≢false (sym both))
idle_parts false b both = absurd (true≢false (sym both))

-- an idle door is as good as none
pub idle_is_none : (latest : ℕ) (door : DoorState) → is_idle latest door ≡ true → later latest door ≡ later latest no_door
idle_is_none latest door idle =
    let both = idle_parts (door.under_way == 0) (nat_le door.next latest) idle in
    let none = eqb-true door.under_way 0 both.0 in
    let low = leb-true door.next latest both.1 in
    let next : max door.next latest ≡ max 0 latest = omega (arith, low) in
    ap (λ (count : ℕ). record { under_way = count; next = max door.next latest }) none
    ∙ ap (λ (next : ℕ). record { under_way = 0; next = next }) next

module _ {Y S : Type 0} (old new : HashMap (String Y) DoorState S) (latest : ℕ) (site : List ℕ) where
  -- the site's entry is another
  pub set_in : (door : DoorState) → ((other : List ℕ) → get_by_text new other ≡ cond (bytes_eq site other) (Some door) (get_by_text old other))
      → (other : List ℕ) → door_in latest new other ≡ later latest (cond (bytes_eq site other) door (door_in latest old other))
  set_in door wrote other = ap (λ o. later latest (unwrap_or o no_door)) (wrote other) ∙ by (bytes_eq site other)
    where
      by : (same : Bool) → later latest (unwrap_or (cond same (Some door) (get_by_text old other)) no_door) ≡ later latest (cond same door (door_in latest old other))
      by true = refl
      by false = sym (later_twice latest (unwrap_or (get_by_text old other) no_door))

  -- the site's entry is gone, and its door is to be idle
  pub gone_in : (door : DoorState) → is_idle latest door ≡ true
      → ((other : List ℕ) → get_by_text new other ≡ cond (bytes_eq site other) None (get_by_text old other))
      → (other : List ℕ) → door_in latest new other ≡ later latest (cond (bytes_eq site other) door (door_in latest old other))
  gone_in door idle gone other = ap (λ o. later latest (unwrap_or o no_door)) (gone other) ∙ by (bytes_eq site other)
    where
      by : (same : Bool) → later latest (unwrap_or (cond same None (get_by_text old other)) no_door) ≡ later latest (cond same door (door_in latest old other))
      by true = sym (idle_is_none latest door idle)
      by false = sym (later_twice latest (unwrap_or (get_by_text old other) no_door))

  -- an idle entry that is gone changes no door
  pub idle_gone : (door : DoorState) → is_idle latest door ≡ true → get_by_text old site ≡ Some door
      → ((other : List ℕ) → get_by_text new other ≡ cond (bytes_eq site other) None (get_by_text old other))
      → (other : List ℕ) → door_in latest new other ≡ door_in latest old other
  idle_gone door idle found gone other = ap (λ o. later latest (unwrap_or o no_door)) (gone other) ∙ by (bytes_eq site other) refl
    where
      by : (same : Bool) → bytes_eq site other ≡ same → later latest (unwrap_or (cond same None (get_by_text old other)) no_door) ≡ door_in latest old other
      by true is =
          sym (idle_is_none latest door idle)
          ∙ ap (λ o. later latest (unwrap_or o no_door)) (sym found ∙ ap (λ (s : List ℕ). get_by_text old s) ((bytes_eq-Decides site other).0 is))
      by false is = refl

  -- a site without an entry has none after one is gone
  pub none_gone : ((other : List ℕ) → get_by_text new other ≡ cond (bytes_eq site other) None (get_by_text old other))
      → (other : List ℕ) → get_by_text old other ≡ None → get_by_text new other ≡ None
  none_gone gone other none = gone other ∙ by (bytes_eq site other)
    where
      by : (same : Bool) → cond same None (get_by_text old other) ≡ None
      by true = refl
      by false = none

-- a table's entries have the doors that the table has
pub seen_in : {Y S : Type 0} (table : HashMap (String Y) DoorState S) (site : List ℕ) → lookup (bytes_eq site) (sites_in table) ≡ get_by_text table site
seen_in {Y} table site = by table.entries
  where
    by : (es : List (String Y × DoorState)) → lookup (bytes_eq site) (map (λ (e : String Y × DoorState). (string_bytes e.0, e.1)) es) ≡ lookup (λ k. bytes_eq site (string_bytes k)) es
    by [] = refl
    by (e ∷ es) = ap (λ o. cond (bytes_eq site (string_bytes e.0)) (Some e.1) o) (by es)

-- a table as the doors are seen
abbrev pub seen : {Y S : Type 0} → Manners → ℕ → HashMap (String Y) DoorState S → DoorsView
seen manners latest table = record { manners = manners; latest = latest; sites = sites_in table }

pub door_seen : {Y S : Type 0} (manners : Manners) (latest : ℕ) (table : HashMap (String Y) DoorState S) (site : List ℕ)
    → door_of (seen manners latest table) site ≡ door_in latest table site
door_seen manners latest table site = ap (λ o. later latest (unwrap_or o no_door)) (seen_in table site)

pub many_seen : {Y S : Type 0} (manners : Manners) (latest : ℕ) (table : HashMap (String Y) DoorState S)
    → kept_count (seen manners latest table) ≡ length table.entries
many_seen {Y} manners latest table = length-map table.entries (λ (e : String Y × DoorState). (string_bytes e.0, e.1))

module _ {Y S : Type 0} (manners : Manners) (latest after now : ℕ) (old new : HashMap (String Y) DoorState S) (is : after ≡ max latest now) where
  -- a door at this moment is the door of before, later
  passed : (door : DoorState) → later after door ≡ later now (later latest door)
  passed door =
      let same : max door.next after ≡ max (max door.next latest) now = omega (arith, is) in
      ap (λ (next : ℕ). record { under_way = door.under_way; next = next }) same

  pub passed_at : (other : List ℕ) → door_in after old other ≡ later now (door_of (seen manners latest old) other)
  passed_at other = passed (unwrap_or (get_by_text old other) no_door) ∙ ap (later now) (sym (door_seen manners latest old other))

  pub waits_in : ((other : List ℕ) → door_in after new other ≡ door_in after old other) → Waits (seen manners latest old) now (seen manners after new)
  waits_in same = record {
    manners = refl;
    doors = λ other. door_seen manners after new other ∙ same other ∙ passed_at other;
  }

  pub sets_in : (site : List ℕ) (door : DoorState) → latest ≤ max door.next now
      → ((other : List ℕ) → door_in after new other ≡ later after (cond (bytes_eq site other) door (door_in after old other)))
      → Sets (seen manners latest old) now site door (seen manners after new)
  sets_in site door low set = record {
    manners = refl;
    doors = λ other. door_seen manners after new other ∙ set other ∙ by other (bytes_eq site other);
  }
    where
      here : later after door ≡ later now door
      here =
          let same : max door.next after ≡ max door.next now = omega (arith, is, low) in
          ap (λ (next : ℕ). record { under_way = door.under_way; next = next }) same

      by : (other : List ℕ) (same : Bool) → later after (cond same door (door_in after old other)) ≡ later now (cond same door (door_of (seen manners latest old) other))
      by other true = here
      by other false = later_twice after (unwrap_or (get_by_text old other) no_door) ∙ passed_at other

  -- time passes, and the site's door is set to what it is
  pub stays_in : (site : List ℕ) (door : DoorState) → door ≡ door_of (seen manners latest old) site
      → ((other : List ℕ) → door_in after new other ≡ door_in after old other)
      → Sets (seen manners latest old) now site door (seen manners after new)
  stays_in site door own same =
      let waits = waits_in same in record {
        manners = refl;
        doors = λ other. waits.doors other ∙ by other (bytes_eq site other) refl;
      }
    where
      by : (other : List ℕ) (t : Bool) → bytes_eq site other ≡ t
          → later now (door_of (seen manners latest old) other) ≡ later now (cond t door (door_of (seen manners latest old) other))
      by other true is =
          ap (later now) (ap (λ (s : List ℕ). door_of (seen manners latest old) s) (sym ((bytes_eq-Decides site other).0 is)) ∙ sym own)
      by other false is = refl
