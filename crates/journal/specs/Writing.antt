-- A journal's writer in contracts, and what it does.
-- Used by `Writer`.
use Rattle.std.specs.Prelude.{◌≡◌, ◌⊎◌, ◌+◌, ◌-◌, ◌^◌, ℕ, List, [], Bool, true, false, length, min}
use Rattle.journal.specs.Bases.{entries_added, file_added, octets_added}
use Rattle.journal.specs.Crash.{HasKept}
use Rattle.journal.specs.Journal.{Noted, Writes}
use Rattle.journal.specs.declared.chronicle.Rest.{Rest}
use Rattle.journal.specs.declared.chronicle.Rest.TheVariants.{Nothing, Part, Last}
use Rattle.journal.specs.declared.distance.Distance.{Distance}
use Rattle.journal.specs.declared.files_room.FilesRoom.{FilesRoom}
use Rattle.journal.specs.declared.position.JournalPosition.{JournalPosition}
use Rattle.journal.specs.declared.rotation.Turned.{Turned}
use Rattle.journal.specs.declared.rotation.Turned.TheVariants as turned
use Rattle.journal.specs.Shelves.{HasHead}

-- the tape of the last file, and where its text ends; how far its end and its beginning are from the last base; and
-- the octets of all files
pub record Written : Type 0 where
  pub noted : Noted
  pub place : JournalPosition
  pub distance : Distance
  pub begun : Distance
  pub room : FilesRoom

-- the files have so many octets more
abbrev pub filled : FilesRoom → ℕ → FilesRoom
filled room octets = record { limit = room.limit; octets = min (room.octets + octets) (2 ^ 64 - 1) }

-- a text of so many octets counts, with the entries up to the new place
pub record CountsText (octets : ℕ) (old new : Written) : Type 0 where
  pub distance : new.distance ≡
      entries_added (octets_added old.distance octets) (new.place.spelled - old.place.spelled)
  pub begun : new.begun ≡ old.begun
  pub room : new.room ≡ filled old.room octets

-- a text of this kind was appended, and counts; if asked, a crash keeps it all
pub record WritesText (Kind : List ℕ → Type 0) (old new : Written) (always : Bool) : Type 0 where
  pub text : List ℕ
  pub is_kind : Kind text
  pub writes : Writes old.noted new.noted text
  pub kept : always ≡ true → HasKept new.noted.written new.noted.kept
  pub counts : CountsText (length text) old new

-- the next file counts: it begins as far from the last base as this one ends
pub record CountsFile (next : JournalPosition) (ended new : Written) : Type 0 where
  pub begun : new.begun ≡ entries_added ended.distance (next.spelled - ended.place.spelled)
  pub distance : new.distance ≡ file_added new.begun
  pub room : new.room ≡ ended.room

-- what follows the place was written, up to the new place
abbrev pub CatchesUpTo : (JournalPosition → List ℕ → JournalPosition → Type 0) → Written → Written → Bool → Type 0
CatchesUpTo follows old new always = WritesText (λ text. follows old.place text new.place) old new always

-- a file was begun with such a text, which a crash keeps
pub record Begins (begins : List ℕ → JournalPosition → Type 0) (new : Written) : Type 0 where
  pub head : List ℕ
  pub is_head : begins head new.place
  pub has : HasHead new.noted.written new.noted.kept head
  pub works : new.noted.failed ≡ false

-- a file without a text was begun at this place
pub record BeginsLog (next : JournalPosition) (new : Written) : Type 0 where
  pub place : new.place ≡ next
  pub has : HasHead new.noted.written new.noted.kept []
  pub works : new.noted.failed ≡ false

-- a first file was begun with such a text, or without one
abbrev pub BeginsFirst : (List ℕ → JournalPosition → Type 0) → Written → Type 0
BeginsFirst begins new =
    Begins begins new ⊎ BeginsLog (record { begun = new.place.begun; spelled = new.place.begun }) new

-- such a text ended the last file, a crash keeps it, and the next one was begun where it ends
pub record TurnsOver (Ends : List ℕ → JournalPosition → Type 0) (old new : Written) : Type 0 where
  pub ended : Written
  pub next : JournalPosition
  pub ends : WritesText (λ text. Ends text next) old ended true
  pub begun : BeginsLog next new
  pub counts : CountsFile next ended new

-- what a file lacks of what was sealed: nothing, since nothing was; or some entries' text, and its end; or the text
-- that ends it, and where the next one begins
abbrev pub IsRest : (List ℕ → JournalPosition → Type 0) → (List ℕ → JournalPosition → Type 0) → Type 0 → Rest → Type 0
IsRest parts Ends NothingSealed (Nothing memory) = NothingSealed × (memory.items ≡ [])
IsRest parts Ends NothingSealed (Part text place) = parts text.items place
IsRest parts Ends NothingSealed (Last text next) = Ends text.items next

-- some of what was sealed was written; or a file was turned over; or nothing was sealed, and nothing changed
abbrev pub Turns : (List ℕ → JournalPosition → Type 0) → (List ℕ → JournalPosition → Type 0) → Type 0
    → Written → Written → Turned → Type 0
Turns parts Ends NothingSealed old new turned.Part = WritesText (λ text. parts text new.place) old new false
Turns parts Ends NothingSealed old new turned.Done =
    TurnsOver Ends old new ⊎ (NothingSealed × (new ≡ old))
