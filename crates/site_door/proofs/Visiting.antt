-- What comes of any calls on doors: a site's visits begin apart, and few are under way.
-- Used by the laws of doors.
use Rattle.std.proofs.Common.{◌≡◌, ◌∙◌, ◌≤◌, ◌<◌, ◌+◌, ◌-◌, ◌==◌, ◌||◌, ◌∷◌, [], ℕ, Bool, true, false, cond, List, Option, Ok, Err, max, min, refl, sym, ap, subst, arith, true≢false}
use Rattle.std.specs.Prelude.{nat_le, nat_lt}
use Rattle.std.specs.Str.{bytes_eq}
use Rattle.std.proofs.lemmas.Bool.{ltb-true, ltb-false, leb-false, eqb-true}
use Rattle.std.proofs.lemmas.Slice.Eq.{bytes_eq-Decides}
use Rattle.site_door.specs.Limits.{never}
use Rattle.site_door.specs.declared.admission.Admission.{Admission}
use Rattle.site_door.specs.declared.admission.Admission.TheVariants.{Admitted, Full, Later}
use Rattle.site_door.specs.declared.door.DoorState.{DoorState}
use Rattle.site_door.specs.declared.manners.Manners.{Manners}
use Rattle.site_door.specs.Doors.{DoorsView, door_of, IsNew, Leaves, Sets, Waits, admission_of, entered_by, later, left_by, pause_end}
use Rattle.site_door.specs.Visits.{AreApart, AreDone, AreFrom, Call, Came, Does, Done, Left, begins_by, begins_of, counted_by, under_way_after}

-- a visit that is let in comes neither too early nor never, and few are under way
pub record MayEnter (manners : Manners) (door : DoorState) (now : ℕ) : Type 0 where
  pub early : door.next ≤ now
  pub ever : now < never
  pub few : door.under_way < manners.most

abbrev is_admitted : Admission → Bool
is_admitted Admitted = true
is_admitted Full = false
is_admitted (Later at) = false

pub may_enter : (manners : Manners) (door : DoorState) (now : ℕ) → admission_of manners door now ≡ Admitted → MayEnter manners door now
may_enter manners door now is = by (nat_lt now door.next) (nat_le never now) (nat_lt door.under_way manners.most) refl refl refl (ap is_admitted is)
  where
    by : (early ends few : Bool) → nat_lt now door.next ≡ early → nat_le never now ≡ ends → nat_lt door.under_way manners.most ≡ few
        → is_admitted (cond (early || ends) (Later (max door.next now)) (cond few Admitted Full)) ≡ true → MayEnter manners door now
    by true ends few a b c admitted = absurd (true≢false (sym admitted))
    by false true few a b c admitted = absurd (true≢false (sym admitted))
    by false false false a b c admitted = absurd (true≢false (sym admitted))
    by false false true a b c admitted = record {
      early = ltb-false now door.next a;
      ever = leb-false never now b;
      few = ltb-true door.under_way manners.most c;
    }

-- the moments are no sooner than this one, and some time
abbrev AreWithin : ℕ → List ℕ → Type 0
AreWithin least [] = Unit {0}
AreWithin least (moment ∷ others) = (least ≤ moment) × (moment < never) × AreWithin least others

weaker : (least less : ℕ) (moments : List ℕ) → less ≤ least → AreWithin least moments → AreWithin less moments
weaker least less [] low within = tt
weaker least less (moment ∷ others) low within =
    let first = within.0 in (omega (arith, low, first), within.1, weaker least less others low within.2)

from_within : (sum : ℕ) (moments : List ℕ) → AreWithin (min sum never) moments → AreFrom sum moments
from_within sum [] within = tt
from_within sum (moment ∷ others) within =
    let first = within.0 in let ever = within.1 in (omega (arith, first, ever), from_within sum others within.2)

-- a door's next begin never gets sooner
pub next_left : (manners : Manners) (now : ℕ) (pause : Option ℕ) (door : DoorState) → door.next ≤ (later now (left_by manners now pause door)).next
next_left manners now pause door = by (door.under_way == 0)
  where
    by : (none : Bool) → door.next ≤ (later now (cond none door (record { under_way = door.under_way - 1; next = max door.next (pause_end manners now pause) }))).next
    by true = omega arith
    by false = omega arith

module _ (old new : DoorsView) (now : ℕ) (site other : List ℕ) (door : DoorState) (sets : Sets old now other door new) where
  -- the door of the site that was set
  set_here : bytes_eq other site ≡ true → door_of new site ≡ later now door
  set_here same = sets.doors site ∙ ap (λ (b : Bool). later now (cond b door (door_of old site))) same

  -- that of another site
  set_there : bytes_eq other site ≡ false → door_of new site ≡ later now (door_of old site)
  set_there apart = sets.doors site ∙ ap (λ (b : Bool). later now (cond b door (door_of old site))) apart

same_door : (old : DoorsView) (site other : List ℕ) → bytes_eq other site ≡ true → door_of old other ≡ door_of old site
same_door old site other same = ap (door_of old) ((bytes_eq-Decides other site).0 same)

-- what a call does to the door of a site
record Keeps (manners : Manners) (old new : DoorsView) (site : List ℕ) (call : Call) : Type 0 where
  manners_stay : new.manners ≡ old.manners
  within : (moments : List ℕ) → AreWithin (door_of new site).next moments → AreWithin (door_of old site).next (begins_by site call moments)
  apart : (moments : List ℕ) → AreWithin (door_of new site).next moments → AreApart manners.delay moments → AreApart manners.delay (begins_by site call moments)
  count : (door_of new site).under_way ≡ counted_by site call (door_of old site).under_way
  few : (door_of old site).under_way ≤ manners.most → (door_of new site).under_way ≤ manners.most

-- nothing of the site's door changes but that time passes
passes : (manners : Manners) (old new : DoorsView) (site : List ℕ) (now : ℕ) → door_of new site ≡ later now (door_of old site)
    → (moments : List ℕ) → AreWithin (door_of new site).next moments → AreWithin (door_of old site).next moments
passes manners old new site now is moments within =
    let same = ap (λ (door : DoorState). door.next) is in weaker (door_of new site).next (door_of old site).next moments (omega (arith, same)) within

waits : (manners : Manners) (old new : DoorsView) (site : List ℕ) (now : ℕ) → Waits old now new
    → (moments : List ℕ) → AreWithin (door_of new site).next moments → AreWithin (door_of old site).next moments
waits manners old new site now is = passes manners old new site now (is.doors site)

admitted : (old new : DoorsView) (site other : List ℕ) (now : ℕ) → admission_of old.manners (door_of old other) now ≡ Admitted
    → Sets old now other (entered_by old.manners now (door_of old other)) new → Keeps old.manners old new site (Came other now (Ok Admitted))
admitted old new site other now may sets = by (bytes_eq other site) refl
  where
    goal : Bool → Type 0
    goal same = (
        ((moments : List ℕ) → AreWithin (door_of new site).next moments → AreWithin (door_of old site).next (cond same (now ∷ moments) moments))
        × ((moments : List ℕ) → AreWithin (door_of new site).next moments → AreApart old.manners.delay moments → AreApart old.manners.delay (cond same (now ∷ moments) moments))
        × ((door_of new site).under_way ≡ cond same ((door_of old site).under_way + 1) (door_of old site).under_way)
        × ((door_of old site).under_way ≤ old.manners.most → (door_of new site).under_way ≤ old.manners.most))

    parts : (same : Bool) → bytes_eq other site ≡ same → goal same
    parts true same =
        let enters = may_enter old.manners (door_of old site) now (ap (λ (door : DoorState). admission_of old.manners door now) (sym (same_door old site other same)) ∙ may) in
        let is : door_of new site ≡ later now (entered_by old.manners now (door_of old site)) =
        set_here old new now site other _ sets same ∙ ap (λ (door : DoorState). later now (entered_by old.manners now door)) (same_door old site other same) in
        let next = ap (λ (door : DoorState). door.next) is in
        let under_way = ap (λ (door : DoorState). door.under_way) is in
        let early = enters.early in
        let few = enters.few in (
          (λ moments within. (early, enters.ever, weaker (door_of new site).next (door_of old site).next moments (omega (arith, next, early)) within)),
          (λ moments within apart. (
            from_within (now + old.manners.delay) moments
                (weaker (door_of new site).next (min (now + old.manners.delay) never) moments (omega (arith, next)) within),
            apart,
          )),
          under_way,
          (λ was. omega (arith, under_way, few)),
        )
    parts false apart =
        let is = set_there old new now site other _ sets apart in
        let under_way = ap (λ (door : DoorState). door.under_way) is in (
          passes old.manners old new site now is,
          (λ moments within are. are),
          under_way,
          (λ was. omega (arith, under_way, was)),
        )

    by : (same : Bool) → bytes_eq other site ≡ same → Keeps old.manners old new site (Came other now (Ok Admitted))
    by same is = let p = subst goal (sym is) (parts same is) in record {
      manners_stay = sets.manners;
      within = p.0;
      apart = p.1;
      count = p.2;
      few = p.3;
    }

waited : (old new : DoorsView) (site : List ℕ) (now : ℕ) (call : Call) → Waits old now new → ((moments : List ℕ) → begins_by site call moments ≡ moments)
    → ((count : ℕ) → counted_by site call count ≡ count) → Keeps old.manners old new site call
waited old new site now call is none same =
    let under_way = ap (λ (door : DoorState). door.under_way) (is.doors site) in record {
      manners_stay = is.manners;
      within = λ moments within. subst (AreWithin (door_of old site).next) (sym (none moments)) (waits old.manners old new site now is moments within);
      apart = λ moments within apart. subst (AreApart old.manners.delay) (sym (none moments)) apart;
      count = under_way ∙ sym (same (door_of old site).under_way);
      few = λ was. omega (arith, under_way, was);
    }

left : (old new : DoorsView) (site other : List ℕ) (now : ℕ) (pause : Option ℕ) → Leaves old other now pause new
    → Keeps old.manners old new site (Left other now pause)
left old new site other now pause sets = by (bytes_eq other site) refl
  where
    goal : Bool → Type 0
    goal same = (
        ((moments : List ℕ) → AreWithin (door_of new site).next moments → AreWithin (door_of old site).next moments)
        × ((door_of new site).under_way ≡ cond same ((door_of old site).under_way - 1) (door_of old site).under_way)
        × ((door_of old site).under_way ≤ old.manners.most → (door_of new site).under_way ≤ old.manners.most))

    fewer : (door : DoorState) (none : Bool) → (door.under_way == 0) ≡ none
        → (cond none door (record { under_way = door.under_way - 1; next = max door.next (pause_end old.manners now pause) })).under_way ≡ door.under_way - 1
    fewer door true is = let zero_is = eqb-true door.under_way 0 is in omega (arith, zero_is)
    fewer door false is = refl

    parts : (same : Bool) → bytes_eq other site ≡ same → goal same
    parts true same =
        let is : door_of new site ≡ later now (left_by old.manners now pause (door_of old site)) =
        set_here old new now site other _ sets same ∙ ap (λ (door : DoorState). later now (left_by old.manners now pause door)) (same_door old site other same) in
        let next = ap (λ (door : DoorState). door.next) is in
        let low = next_left old.manners now pause (door_of old site) in
        let under_way : (door_of new site).under_way ≡ (door_of old site).under_way - 1 =
        ap (λ (door : DoorState). door.under_way) is ∙ fewer (door_of old site) ((door_of old site).under_way == 0) refl in (
          (λ moments within. weaker (door_of new site).next (door_of old site).next moments (subst (λ n. (door_of old site).next ≤ n) (sym next) low) within),
          under_way,
          (λ was. omega (arith, under_way, was)),
        )
    parts false apart =
        let is = set_there old new now site other _ sets apart in
        let under_way = ap (λ (door : DoorState). door.under_way) is in (
          passes old.manners old new site now is,
          under_way,
          (λ was. omega (arith, under_way, was)),
        )

    by : (same : Bool) → bytes_eq other site ≡ same → Keeps old.manners old new site (Left other now pause)
    by same is = let p = subst goal (sym is) (parts same is) in record {
      manners_stay = sets.manners;
      within = p.0;
      apart = λ moments within apart. apart;
      count = p.1;
      few = p.2;
    }

keeps : (old new : DoorsView) (site : List ℕ) (call : Call) → Does old call new → Keeps old.manners old new site call
keeps old new site (Came other now (Ok Admitted)) does = admitted old new site other now does.0 does.1
keeps old new site (Came other now (Ok Full)) does = waited old new site now (Came other now (Ok Full)) does.1 (λ _. refl) (λ _. refl)
keeps old new site (Came other now (Ok (Later at))) does = waited old new site now (Came other now (Ok (Later at))) does.1 (λ _. refl) (λ _. refl)
keeps old new site (Came other now (Err none)) does = waited old new site now (Came other now (Err none)) does.2 (λ _. refl) (λ _. refl)
keeps old new site (Left other now pause) does = left old new site other now pause does

-- the begins of a site after any doors
begins_are : (manners : Manners) (doors : DoorsView) (calls : List Done) (site : List ℕ) → doors.manners ≡ manners → AreDone doors calls
    → AreWithin (door_of doors site).next (begins_of site calls) × AreApart manners.delay (begins_of site calls)
begins_are manners doors [] site is done = (tt, tt)
begins_are manners doors (one ∷ others) site is done =
    let kept : Keeps manners doors one.doors site one.call = subst (λ m. Keeps m doors one.doors site one.call) is (keeps doors one.doors site one.call done.0) in
    let rest = begins_are manners one.doors others site (kept.manners_stay ∙ is) done.1 in
    (kept.within (begins_of site others) rest.0, kept.apart (begins_of site others) rest.0 rest.1)

pub begins_apart : (manners : Manners) (doors : DoorsView) (calls : List Done) (site : List ℕ) → IsNew manners doors
    → AreDone doors calls → AreApart manners.delay (begins_of site calls)
begins_apart manners doors calls site new done = (begins_are manners doors calls site new.heeds done).1

few_after : (manners : Manners) (doors : DoorsView) (calls : List Done) (site : List ℕ) → doors.manners ≡ manners → AreDone doors calls
    → (door_of doors site).under_way ≤ manners.most → under_way_after site (door_of doors site).under_way calls ≤ manners.most
few_after manners doors [] site is done few = few
few_after manners doors (one ∷ others) site is done few =
    let kept : Keeps manners doors one.doors site one.call = subst (λ m. Keeps m doors one.doors site one.call) is (keeps doors one.doors site one.call done.0) in
    subst (λ n. under_way_after site n others ≤ manners.most) kept.count
    (few_after manners one.doors others site (kept.manners_stay ∙ is) done.1 (kept.few few))

pub few_under_way : (manners : Manners) (doors : DoorsView) (calls : List Done) (site : List ℕ) → IsNew manners doors
    → AreDone doors calls → under_way_after site 0 calls ≤ manners.most
few_under_way manners doors calls site new done =
    let none : (door_of doors site).under_way ≡ 0 = ap (λ (door : DoorState). door.under_way) (new.none site) in
    subst (λ n. under_way_after site n calls ≤ manners.most) none (few_after manners doors calls site new.heeds done (omega (arith, none)))
