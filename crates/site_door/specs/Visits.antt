-- What comes of any list of calls on the doors, whatever moments they are made at: the visits of a site begin apart,
-- and few are under way at once. Used by the laws of doors.
use Rattle.std.specs.Prelude.{◌+◌, ◌-◌, ◌≤◌, ℕ, List, [], ◌∷◌, Option, Result, Ok, if◌then◌else◌}
use Rattle.std.specs.Str.{bytes_eq}
use Rattle.site_door.specs.declared.admission.Admission.{Admission}
use Rattle.site_door.specs.declared.admission.Admission.TheVariants.{Admitted}
use Rattle.site_door.specs.declared.admission.NoDoor.{NoDoor}
use Rattle.site_door.specs.declared.manners.Manners.{Manners}
use Rattle.site_door.specs.Doors.{DoorsView, Enters, IsNew, Leaves}

-- a call: a visit of a site came at a moment and was answered, or left at a moment, with the site's pause
pub data Call : Type 0 where
  Came : List ℕ → ℕ → Result Admission NoDoor → Call
  Left : List ℕ → ℕ → Option ℕ → Call

-- a call, and the doors after it
pub record Done : Type 0 where
  pub call : Call
  pub doors : DoorsView

-- the call does what its contract says
abbrev pub Does : DoorsView → Call → DoorsView → Type 0
Does old (Came site now reply) new = Enters old site now reply new
Does old (Left site now pause) new = Leaves old site now pause new

-- the calls are made one after the other
abbrev pub AreDone : DoorsView → List Done → Type 0
AreDone doors [] = Unit {0}
AreDone doors (done ∷ later) = Does doors done.call done.doors × AreDone done.doors later

-- the moments at which visits of the site were let in, by a call, before those of later calls
abbrev pub begins_by : List ℕ → Call → List ℕ → List ℕ
begins_by site (Came other now (Ok Admitted)) later = if bytes_eq other site then now ∷ later else later
begins_by site _ later = later

-- the moments at which visits of the site were let in, in the order of the calls
abbrev pub begins_of : List ℕ → List Done → List ℕ
begins_of site [] = []
begins_of site (done ∷ later) = begins_by site done.call (begins_of site later)

-- how many visits of the site are under way after a call, if so many were before
abbrev pub counted_by : List ℕ → Call → ℕ → ℕ
counted_by site (Came other now (Ok Admitted)) count = if bytes_eq other site then count + 1 else count
counted_by site (Left other now pause) count = if bytes_eq other site then count - 1 else count
counted_by site _ count = count

-- the same after all calls
abbrev pub under_way_after : List ℕ → ℕ → List Done → ℕ
under_way_after site count [] = count
under_way_after site count (done ∷ later) = under_way_after site (counted_by site done.call count) later

-- each moment is no sooner than this one
abbrev pub AreFrom : ℕ → List ℕ → Type 0
AreFrom least [] = Unit {0}
AreFrom least (moment ∷ later) = (least ≤ moment) × AreFrom least later

-- each moment is at least the delay after each one before it
abbrev pub AreApart : ℕ → List ℕ → Type 0
AreApart delay [] = Unit {0}
AreApart delay (moment ∷ later) = AreFrom (moment + delay) later × AreApart delay later

-- of any calls on new doors, the visits of a site that were let in begin at least the delay apart
abbrev pub PausesAreKept : Type 0
PausesAreKept = (manners : Manners) (doors : DoorsView) (calls : List Done) (site : List ℕ) → IsNew manners doors
    → AreDone doors calls → AreApart manners.delay (begins_of site calls)

-- after any calls on new doors, at most so many visits of a site are under way as may be
abbrev pub FewAreUnderWay : Type 0
FewAreUnderWay = (manners : Manners) (doors : DoorsView) (calls : List Done) (site : List ℕ) → IsNew manners doors
    → AreDone doors calls → under_way_after site 0 calls ≤ manners.most
