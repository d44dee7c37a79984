-- What contracts see of a book: its limits, its base and the entries since.
-- RFC 9309, sections 2.3.1 and 2.4.
use Rattle.std.specs.Prelude.{◌≡◌, ℕ, ◌+◌, ◌-◌, ◌*◌, ◌<◌, ◌≤◌, min, List, [], ◌∷◌, ◌++◌, length}
use Rattle.permit_book.specs.Outstanding.{listed_for}
use Rattle.gate_history.specs.declared.entry.Entry.{Entry}
use Rattle.gate_history.specs.Base.{Base}
use Rattle.gate_history.specs.History.{History, followed_by, from}
use Rattle.gate_history.specs.Legal.{IsLegal, MayFollow}
use Rattle.gate_history.specs.Outstanding.{running, unspent}
use Rattle.gate_history.specs.Standing.{in_flight}
use Rattle.gate_core.specs.declared.config.Limits.{Limits}
use Rattle.gate_core.specs.Limits.{greatest_number}

-- a book as callers see it
pub record Gate : Type 0 where
  pub limits : Limits
  pub base : Base
  pub entries : List Entry

-- its history: the base and the entries after it
abbrev pub history : Gate → History
history g = followed_by (from g.base) g.entries

-- the entries promised to what is open: one to each turn in flight, two to each unspent permit, one to each running
abbrev pub promised : History → ℕ
promised h = length (in_flight h) + 2 * length (unspent h) + length (running h)

-- the room taken: by entries, and by promised ones
abbrev pub room : Gate → ℕ
room g = length g.entries + promised (history g)

-- the most room: the limit of the log, with no more entries ever, sealed ones too, than a number counts
abbrev pub most_room : Limits → Base → ℕ
most_room limits base = min limits.log_limit (greatest_number - base.entries)

-- this many more entries fit
abbrev pub HasRoom : Gate → ℕ → Type 0
HasRoom g more = room g + more ≤ most_room g.limits g.base

-- this many more entries do not fit
abbrev pub IsFull : Gate → ℕ → Type 0
IsFull g more = most_room g.limits g.base < room g + more

-- the unspent and running permits of an authority
abbrev pub held : History → List ℕ → ℕ
held h authority = listed_for (unspent h) authority + listed_for (running h) authority

-- the book's history is legal
abbrev pub HasLegalHistory : Gate → Type 0
HasLegalHistory g = IsLegal (history g)

-- the book with one more entry
abbrev pub with_entry : Gate → Entry → Gate
with_entry g e = record { limits = g.limits; base = g.base; entries = g.entries ++ e ∷ [] }

-- only one legal entry was added
pub record Adds (old : Gate) (entry : Entry) (new : Gate) : Type 0 where
  pub adds : new ≡ with_entry old entry
  pub fit : MayFollow (history old) entry

-- nothing changed
abbrev pub Stays : Gate → Gate → Type 0
Stays old new = new ≡ old
