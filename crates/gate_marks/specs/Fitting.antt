-- When lists of marks are a history, and when marks agree with a segment of one.
-- Cited by `marks_fit`, `lists_fit` and `marks_agree`.
use Rattle.std.specs.Prelude.{◌≡◌, ℕ, ◌+◌, ◌-◌, ◌<◌, ◌≤◌, List, [], ◌∷◌, length, map, Some}
use Rattle.std.specs.List.{slice_get}
use Rattle.gate_history.specs.declared.entry.Entry.{Entry}
use Rattle.gate_history.specs.Segment.{Sealed}
use Rattle.gate_marks.specs.declared.mark.Mark.{Mark}
use Rattle.gate_marks.specs.Marks.{AreSealed, Receipt, places_of}
use Rattle.gate_marks.specs.Places.{Ascend, EachOnce}

-- the mark is the entry at its place, or that is sealed
abbrev pub IsEntryAt : ℕ → List Entry → Mark → Type 0
IsEntryAt sealed entries m = sealed ≤ m.place → slice_get entries (m.place - sealed) ≡ Some m.entry

-- each mark is its entry, or sealed
abbrev pub AreEntries : ℕ → List Entry → List Mark → Type 0
AreEntries sealed entries [] = Unit {0}
AreEntries sealed entries (m ∷ ms) = IsEntryAt sealed entries m × AreEntries sealed entries ms

-- receipts fit: their places ascend, each mark is its entry, and only sealed entries lack a mark
pub record Fits (sealed : ℕ) (entries : List Entry) (r : Receipt) : Type 0 where
  pub ascend : Ascend (places_of r)
  pub before_sealed : r.sealed.before ≤ sealed
  pub are_sealed : AreSealed sealed r.sealed.places
  pub are_entries : AreEntries sealed entries r.marks

-- the receipts of each desk fit
abbrev pub EachFits : ℕ → List Entry → List Receipt → Type 0
EachFits sealed entries [] = Unit {0}
EachFits sealed entries (r ∷ rs) = Fits sealed entries r × EachFits sealed entries rs

-- receipts are a history with this many sealed entries: their places are all its places, each once and ascending in
-- each list, and each unsealed mark is its entry
pub record MarksFit (sealed : ℕ) (entries : List Entry) (rs : List Receipt) : Type 0 where
  pub each : EachFits sealed entries rs
  pub once : EachOnce (sealed + length entries) (map places_of rs)

-- the mark is the entry at its place, if that is in the segment after this many sealed entries
abbrev pub AgreesFrom : ℕ → List Entry → Mark → Type 0
AgreesFrom sealed entries m =
    sealed ≤ m.place → m.place < sealed + length entries → slice_get entries (m.place - sealed) ≡ Some m.entry

-- each mark whose place lies in the segment is its entry there
abbrev pub Agrees : Sealed → List Mark → Type 0
Agrees s [] = Unit {0}
Agrees s (m ∷ ms) = AgreesFrom s.base.entries s.entries m × Agrees s ms
