-- Text that follows earlier text: together they are the text of the history.
-- Used by `spelling`.
use Rattle.std.specs.Prelude.{◌≡◌, ℕ, ◌+◌, ◌-◌, ◌<◌, ◌≤◌, List, [], ◌++◌, length, take, drop, Result, Ok, Err, ⊤}
use Rattle.gate_history.specs.declared.entry.Entry.{Entry}
use Rattle.gate_history.specs.Segment.{Sealed}
use Rattle.gate_core.specs.declared.refusal.NoMemory.{NoMemory}
use Rattle.history_text.specs.SpellBase.{spell_segment}
use Rattle.journal.specs.declared.chronicle.Rest.{Rest}
use Rattle.journal.specs.declared.chronicle.Rest.TheVariants.{Nothing, Part, Last}
use Rattle.journal.specs.declared.position.JournalPosition.{JournalPosition}

-- how many entries of the last file are before this place
abbrev pub spelled_count : JournalPosition → ℕ
spelled_count place = place.spelled - place.begun

-- the part of a segment before this place
abbrev pub spelled_of : JournalPosition → Sealed → Sealed
spelled_of place s = record { base = s.base; entries = take (spelled_count place) s.entries }

-- the last file began with the segment's base, and the place is after some of its entries
pub record IsPlaceIn (place : JournalPosition) (s : Sealed) : Type 0 where
  pub begun : place.begun ≡ s.base.entries
  pub from : place.begun ≤ place.spelled
  pub within : spelled_count place ≤ length s.entries

-- the segment's entries after the place
pub record AreBehind (place : JournalPosition) (s : Sealed) (entries : List Entry) : Type 0 where
  pub place_is : IsPlaceIn place s
  pub entries_are : entries ≡ drop (spelled_count place) s.entries

-- with the text before the place, this is the whole segment's text
pub record Follows (place : JournalPosition) (s : Sealed) (text : List ℕ) : Type 0 where
  pub place_is : IsPlaceIn place s
  pub whole : spell_segment (spelled_of place s) ++ text ≡ spell_segment s

-- the text is that of entries behind the place, up to the next place; where there is none, none are left
pub record SpellsTo (place : JournalPosition) (s : Sealed) (text : List ℕ) (next : JournalPosition) : Type 0 where
  pub next_is : IsPlaceIn next s
  pub text_is : Follows place (spelled_of next s) text
  pub goes : next ≡ place → spelled_count place ≡ length s.entries

-- the text is that of some of the entries that a seal handed out, and some are left
abbrev pub PartOf : Result Sealed NoMemory → JournalPosition → List ℕ → JournalPosition → Type 0
PartOf (Ok s) place text next = SpellsTo place s text next × (spelled_count next < length s.entries)
PartOf (Err refusal) place text next = ⊥

-- the place after a segment's entries, where the next file begins
abbrev pub place_after : Sealed → JournalPosition
place_after s = record { begun = s.base.entries + length s.entries; spelled = s.base.entries + length s.entries }

-- the text ends the segment's, and the next file begins after its entries
abbrev pub Ends : Sealed → JournalPosition → List ℕ → JournalPosition → Type 0
Ends s place text next = Follows place s text × (next ≡ place_after s)

-- the text ends what a seal handed out, and the next file begins there; there is none if nothing was sealed
abbrev pub EndsFile : Result Sealed NoMemory → JournalPosition → List ℕ → JournalPosition → Type 0
EndsFile (Ok s) place text next = Ends s place text next
EndsFile (Err refusal) place text next = ⊥

-- how many entries precede what a seal handed out
abbrev pub BaseNumber : Result Sealed NoMemory → ℕ → Type 0
BaseNumber (Ok s) entries = entries ≡ s.base.entries
BaseNumber (Err refusal) entries = ⊥

-- the text of what stood before what a seal handed out: that of a segment without entries
abbrev pub BaseText : Result Sealed NoMemory → List ℕ → Type 0
BaseText (Ok s) text = text ≡ spell_segment (record { base = s.base; entries = [] })
BaseText (Err refusal) text = ⊥

-- what a file lacks of a segment with entries: a part of them, behind which some are left, or all up to its end
abbrev pub IsRestIn : JournalPosition → Sealed → Rest → Type 0
IsRestIn place s (Nothing memory) = ⊥
IsRestIn place s (Part text next) = SpellsTo place s text.items next × (spelled_count next < length s.entries)
IsRestIn place s (Last text next) = Ends s place text.items next

-- a seal handed out no entry
abbrev pub HandsNothing : Result Sealed NoMemory → Type 0
HandsNothing (Ok s) = s.entries ≡ []
HandsNothing (Err refusal) = ⊤
