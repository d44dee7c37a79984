-- The outstanding permits after a history, and the granted generations.
-- Used by the contracts of books, bases and audits.
use Rattle.std.specs.Prelude.{ℕ, ◌==◌, Bool, ◌||◌, max, List, [], ◌∷◌, ◌++◌, filter}
use Rattle.permit_book.specs.declared.granted_permit.GrantedPermit.{GrantedPermit}
use Rattle.permit_book.specs.Outstanding.{granted_in, is_listed, is_listed_for, is_numbered, permit_for, without}
use Rattle.gate_history.specs.declared.base.SlotGrant.{SlotGrant}
use Rattle.gate_history.specs.declared.entry.Entry.TheVariants.{Granted, Started, StartDenied, Returned, Finished}
use Rattle.gate_history.specs.Grants.{greatest_of, is_covered, with_grant}
use Rattle.gate_history.specs.History.{History, from, ◌▸◌}

-- the unspent permits: a grant adds one; a start, allowed or denied, and a return remove those of their number
abbrev pub unspent : History → List GrantedPermit
unspent (from base) = base.unspent
unspent (h ▸ Granted _ number fetch) = unspent h ++ permit_for number fetch ∷ []
unspent (h ▸ Started _ number _) = without number (unspent h)
unspent (h ▸ StartDenied _ number _) = without number (unspent h)
unspent (h ▸ Returned number) = without number (unspent h)
unspent (h ▸ _) = unspent h

-- the running permits: a start adds the unspent ones of its number; a finish removes those of its number
abbrev pub running : History → List GrantedPermit
running (from base) = base.running
running (h ▸ Started _ number _) = running h ++ filter (is_numbered number) (unspent h)
running (h ▸ Finished number) = without number (running h)
running (h ▸ _) = running h

-- the number has an unspent permit
abbrev pub is_unspent : History → ℕ → Bool
is_unspent h number = is_listed (unspent h) number

-- a fetch under this number is running
abbrev pub is_running : History → ℕ → Bool
is_running h number = is_listed (running h) number

-- the number has an unspent permit for this token and URL
abbrev pub stands : History → ℕ → List ℕ → List ℕ → Bool
stands h number token url = is_listed_for (unspent h) number token url

-- the greatest generation granted in the slot, or 0
abbrev pub greatest_in : History → ℕ → ℕ
greatest_in (from base) slot = greatest_of base.grants slot
greatest_in (h ▸ Granted _ number _) slot = max (granted_in number slot) (greatest_in h slot)
greatest_in (h ▸ _) slot = greatest_in h slot

-- the slots with grants, and their greatest generations
abbrev pub grants : History → List SlotGrant
grants (from base) = base.grants
grants (h ▸ Granted _ number _) = with_grant number (grants h)
grants (h ▸ _) = grants h

-- the number was granted: by an entry, or by the base, up to its slot's greatest generation
abbrev pub was_granted : History → ℕ → Bool
was_granted (from base) number = is_covered base.grants number
was_granted (h ▸ Granted _ granted _) number = granted == number || was_granted h number
was_granted (h ▸ _) number = was_granted h number
