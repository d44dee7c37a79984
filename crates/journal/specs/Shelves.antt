-- A journal's files, for those who create them.
-- Used by `Shelf` and `Chronicle`.
use Rattle.std.specs.Prelude.{◌≡◌, ◌⊎◌, ◌≤◌, ℕ, List, [], length, Option, None, Some, ⊤}
use Rattle.std.specs.Io.KnownBytes.{Appends}
use Rattle.journal.specs.declared.position.JournalPosition.{JournalPosition}

-- a file has exactly this text, and a crash keeps it, if that is known
abbrev pub HasHead : Option (List ℕ) → ℕ → List ℕ → Type 0
HasHead None kept head = ⊤
HasHead (Some octets) kept head = (octets ≡ head) × (length head ≤ kept)

-- a text that may begin a file and ends at this place was written
pub record WritesHead (begins : List ℕ → JournalPosition → Type 0) (old new : Option (List ℕ))
    (place : JournalPosition) : Type 0 where
  pub head : List ℕ
  pub is_head : begins head place
  pub writes : Appends old new head

-- a text of this kind was written
abbrev pub WritesSome : (List ℕ → Type 0) → Option (List ℕ) → Option (List ℕ) → Type 0
WritesSome Kind old new = (text : List ℕ) × (Kind text × Appends old new text)

-- the text of a file is of this kind, if it is known
abbrev pub IfKnown : (List ℕ → Type 0) → Option (List ℕ) → Type 0
IfKnown Kind None = ⊤
IfKnown Kind (Some text) = Kind text

-- a new file has no text, and begins and ends at the place after so many entries
pub record IsEmptyLog (entries : ℕ) (written : Option (List ℕ)) (kept : ℕ) (place : JournalPosition) : Type 0 where
  pub place_is : place ≡ record { begun = entries; spelled = entries }
  pub has : HasHead written kept []

-- a new file has a text that may begin it and ends at this place, and a crash keeps it
pub record IsBegun (begins : List ℕ → JournalPosition → Type 0) (written : Option (List ℕ)) (kept : ℕ)
    (place : JournalPosition) : Type 0 where
  pub head : List ℕ
  pub is_head : begins head place
  pub has : HasHead written kept head

-- a first file begins with such a text; or it has no text, and begins and ends at one place
abbrev pub IsFirst : (List ℕ → JournalPosition → Type 0) → Option (List ℕ) → ℕ → JournalPosition → Type 0
IsFirst begins written kept place = IsBegun begins written kept place ⊎ IsEmptyLog place.begun written kept place
