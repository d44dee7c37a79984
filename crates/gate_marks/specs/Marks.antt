-- The marks of a desk: its entries, each with its place, and the places only of sealed ones.
-- A place is the number of all entries before it.
use Rattle.std.specs.Prelude.{ℕ, ◌+◌, ◌<◌, List, [], ◌∷◌, ◌++◌, map, if◌then◌else◌}
use Rattle.gate_history.specs.declared.entry.Entry.{Entry}
use Rattle.gate_history.specs.History.{is_start}
use Rattle.gate_marks.specs.declared.mark.Mark.{Mark}
use Rattle.gate_marks.specs.Places.{places_below}

-- the mark of an entry at a place
abbrev pub mark_at : ℕ → Entry → Mark
mark_at place e = record { place = place; entry = e }

-- how many of the marks are started fetches
abbrev pub starts_in : List Mark → ℕ
starts_in [] = 0
starts_in (m ∷ ms) = (if is_start m.entry then 1 else 0) + starts_in ms

-- what is kept of sealed entries: a range of first places; single places; the number of started fetches; and the
-- number of entries handed out, of any desk. A desk keeps only single places, of its own entries
pub record SealedView : Type 0 where
  pub before : ℕ
  pub places : List ℕ
  pub starts : ℕ
  pub handed : ℕ

-- nothing
abbrev pub nothing_sealed : SealedView
nothing_sealed = record { before = 0; places = []; starts = 0; handed = 0 }

-- what is kept when these marks are added
abbrev pub sealed_with : SealedView → List Mark → SealedView
sealed_with s ms = record {
  before = s.before;
  places = s.places ++ map (λ m. m.place) ms;
  starts = s.starts + starts_in ms;
  handed = s.handed;
}

-- what is kept after this many more entries were handed out
abbrev pub with_handed : SealedView → ℕ → SealedView
with_handed s count = record { before = s.before; places = s.places; starts = s.starts; handed = s.handed + count }

-- a desk's receipts: what is kept of sealed entries, and the later marks
pub record Receipt : Type 0 where
  pub sealed : SealedView
  pub marks : List Mark

-- marks without sealed entries
abbrev pub alone : List Mark → Receipt
alone ms = record { sealed = nothing_sealed; marks = ms }

-- the single places, in the desk's order
abbrev pub kept_places : Receipt → List ℕ
kept_places r = r.sealed.places ++ map (λ m. m.place) r.marks

-- the places of receipts, in their order
abbrev pub places_of : Receipt → List ℕ
places_of r = places_below r.sealed.before ++ kept_places r

-- how many started fetches the desk made
abbrev pub starts_of : Receipt → ℕ
starts_of r = r.sealed.starts + starts_in r.marks

-- how many fetches all desks started
abbrev pub starts_of_all : List Receipt → ℕ
starts_of_all [] = 0
starts_of_all (r ∷ rs) = starts_of r + starts_of_all rs

-- how many entries all desks handed out
abbrev pub handed_at_all : List Receipt → ℕ
handed_at_all [] = 0
handed_at_all (r ∷ rs) = r.sealed.handed + handed_at_all rs

-- each place is below this number
abbrev pub AreSealed : ℕ → List ℕ → Type 0
AreSealed count [] = Unit {0}
AreSealed count (place ∷ places) = (place < count) × AreSealed count places
