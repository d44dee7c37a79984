-- A base from which a book may continue: nothing outstanding, and grants within its limits.
-- RFC 9309, sections 2.3.1 and 2.4; cited by `resume.rt`.
use Rattle.std.specs.Prelude.{◌≡◌, ◌<◌, ◌^◌, Bool, true, false, List, [], Result, Ok, Err, length}
use Rattle.std.specs.List.{list_all}
use Rattle.authority_cache.specs.Lists.{TellsCache}
use Rattle.authority_cache.specs.Sites.{Known}
use Rattle.permit_book.specs.Outstanding.{TellsPermits}
use Rattle.permit_book.specs.Table.{Table}
use Rattle.gate_history.specs.declared.base.SlotGrant.{SlotGrant}
use Rattle.gate_history.specs.Base.{Base, empty_base}
use Rattle.gate_history.specs.Grants.{greatest_of}
use Rattle.gate_core.specs.declared.config.Limits.{Limits}
use Rattle.gate_core.specs.declared.refusal.NotResumed.{NotResumed}
use Rattle.gate_core.specs.declared.refusal.NotResumed.TheVariants as not_resumed
use Rattle.gate_core.specs.Gate.{Gate}
use Rattle.gate_core.specs.Kept.{is_grant_of}

-- nothing of the base is outstanding, and the cache has its answers
pub record CanGoOn (base : Base) (cache : Known) : Type 0 where
  pub turns : base.in_flight ≡ []
  pub permits : base.unspent ≡ []
  pub runs : base.running ≡ []
  pub answers : TellsCache cache base.standing base.in_flight

-- a gate without entries since its base, and with nothing out: a lock can be put round it
abbrev pub IsIdle : Gate → Type 0
IsIdle g =
    (g.entries ≡ [])
    × ((g.base.in_flight ≡ []) × (g.base.unspent ≡ []) × (g.base.running ≡ []))
    × (g.base.entries ≡ 0 → g.base ≡ empty_base)
    × (g.base.started < 2 ^ 63)

-- each grant has a slot of these limits, and a generation from 1 to the last
abbrev pub fits_limits : Limits → Base → Bool
fits_limits limits base = list_all (is_grant_of limits) base.grants

-- resume: Slots, exactly if a grant does not fit the limits
abbrev pub Resumes : Limits → Base → Result Gate NotResumed → Type 0
Resumes limits base (Ok book) = fits_limits limits base ≡ true
Resumes limits base (Err not_resumed.Slots) = fits_limits limits base ≡ false
Resumes limits base (Err not_resumed.NoMemory) = fits_limits limits base ≡ true

-- the table has the slots of these limits and the earlier grants, with nothing outstanding
pub record IsBehind (limits : Limits) (grants : List SlotGrant) (t : Table) : Type 0 where
  pub tells : TellsPermits t [] [] (greatest_of grants)
  pub slots : length t.slots ≡ limits.slots
  pub first : t.first_generation ≡ limits.first_generation
