-- What a desk did at a gate: its shares of the ledgers, and its marks. The shares count the marks.
-- Cited by `Account`, `CountedBook` and a desk's invariant.
use Rattle.std.specs.Prelude.{◌≡◌, ℕ, ◌+◌, ◌≤◌, List, [], ◌++◌, length, map}
use Rattle.gate_history.specs.Base.{Base}
use Rattle.gate_marks.specs.declared.mark.Mark.{Mark}
use Rattle.gate_marks.specs.Marks.{AreSealed, Receipt, SealedView, nothing_sealed, sealed_with, starts_in, with_handed}

-- a desk's shares: the entries it made, the fetches it started, the entries it handed out
pub record Shares : Type 0 where
  pub entries : ℕ
  pub starts : ℕ
  pub handed : ℕ

-- a desk's number, what it keeps of sealed entries, the later marks, and how many marks there is room for
pub record AccountView : Type 0 where
  pub no : ℕ
  pub sealed : SealedView
  pub marks : List Mark
  pub room : ℕ

-- the shares count the marks and what was handed out
pub record AreCounted (shares : Shares) (sealed : SealedView) (marks : List Mark) : Type 0 where
  pub entries_are : shares.entries ≡ sealed.before + length sealed.places + length marks
  pub starts_are : shares.starts ≡ sealed.starts + starts_in marks
  pub handed_are : shares.handed ≡ sealed.handed

-- an account of this number in which nothing was done
abbrev pub IsNewAccount : ℕ → AccountView → Type 0
IsNewAccount number a = a ≡ record { no = number; sealed = nothing_sealed; marks = []; room = a.room }

-- the account with more marks
abbrev pub with_marks : AccountView → List Mark → AccountView
with_marks a ms = record a { marks = a.marks ++ ms }

-- the account after it handed out more entries
abbrev pub with_handed_out : AccountView → ℕ → AccountView
with_handed_out a count = record a { sealed = with_handed a.sealed count }

-- of its first marks, whose entries were among the first of all, the account keeps the places and the number of started
-- fetches
pub record Condensed (count : ℕ) (a a2 : AccountView) : Type 0 where
  pub first : List Mark
  pub were_sealed : AreSealed count (map (λ m. m.place) first)
  pub no_is : a2.no ≡ a.no
  pub room_is : a2.room ≡ a.room
  pub marks_are : a.marks ≡ first ++ a2.marks
  pub sealed_are : a2.sealed ≡ sealed_with a.sealed first

-- as many entries as before, with no more marks
pub record KeepsEntries (a a2 : AccountView) : Type 0 where
  pub entries_are : length a2.sealed.places + length a2.marks ≡ length a.sealed.places + length a.marks
  pub no_more : length a2.marks ≤ length a.marks

-- what its receipts have
abbrev pub receipt_in : AccountView → Receipt
receipt_in a = record { sealed = a.sealed; marks = a.marks }

-- the receipts of all before a base: all its places and started fetches, all handed out
abbrev pub past_of : Base → Receipt
past_of base = record {
  sealed = record { before = base.entries; places = []; starts = base.started; handed = base.entries };
  marks = [];
}
