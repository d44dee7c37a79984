-- Texts that are written in the order of their numbers, as docs/FORMATS.md has it (Jobs and their report).
-- Used by `TextsInOrder`.
use Rattle.std.specs.Prelude.{◌≡◌, ◌≢◌, ◌<◌, ◌≤◌, ◌+◌, ℕ, Bool, ◌||◌, nat_lt, List, [], ◌∷◌, ◌++◌, length, take, slice_index_or, Option, None, Some, is_some, if◌then◌else◌, Vec}
use Rattle.std.specs.List.{concat, slice_get}
use Rattle.std.specs.Io.KnownBytes.{Appends}
use Rattle.std.specs.declared.alloc.Global.{Global}
use Rattle.counted_io.specs.Device.{AppendsPrefix}
use Rattle.counted_io.specs.Output.{Passes}

-- how many texts were passed on, those that wait for earlier ones, by their numbers, and the octets that are pending
pub record OrderView : Type 0 where
  pub next : ℕ
  pub kept : List (Option (Vec ℕ Global))
  pub pending : List ℕ

-- the text of a number
abbrev pub text_at : List (List ℕ) → ℕ → List ℕ
text_at texts number = slice_index_or texts number []

-- the text that waits at a number, if one does
abbrev pub waiting_at : List (Option (Vec ℕ Global)) → ℕ → Option (Vec ℕ Global)
waiting_at kept number = slice_index_or kept number None

-- of these texts the first ones were passed on, after what was written at the start, and each that waits has its number
pub record AreInOrder (texts : List (List ℕ)) (start written : Option (List ℕ)) (order : OrderView) : Type 0 where
  pub count : length order.kept ≡ length texts
  pub within : order.next ≤ length texts
  pub passed : Passes start written (concat (take order.next texts)) order.pending
  pub kept : (number : ℕ) (text : Vec ℕ Global) → number < length texts → waiting_at order.kept number ≡ Some text
      → slice_get texts number ≡ Some text.items

-- the next text is not known
abbrev pub IsAsFarAsKnown : OrderView → Type 0
IsAsFarAsKnown order = waiting_at order.kept order.next ≡ None

-- whatever the texts of this many numbers are, none was passed on, and none waits
abbrev pub IsNew : ℕ → OrderView → Type 0
IsNew count order = (texts : List (List ℕ)) (start : Option (List ℕ)) → length texts ≡ count
    → AreInOrder texts start start order × IsAsFarAsKnown order

-- whatever the texts are, they are in order as before
abbrev pub StaysInOrder : Option (List ℕ) → Option (List ℕ) → OrderView → OrderView → Type 0
StaysInOrder written written' old new = (texts : List (List ℕ)) (start : Option (List ℕ))
    → AreInOrder texts start written old → AreInOrder texts start written' new

-- these texts are in order as before
abbrev pub StaysWith : List (List ℕ) → Option (List ℕ) → Option (List ℕ) → OrderView → OrderView → Type 0
StaysWith texts written written' old new = (start : Option (List ℕ))
    → AreInOrder texts start written old → AreInOrder texts start written' new

-- whatever the other texts are, they are in order with this one
abbrev pub TakesText : ℕ → List ℕ → Option (List ℕ) → Option (List ℕ) → OrderView → OrderView → Type 0
TakesText number text written written' old new = (texts : List (List ℕ)) (start : Option (List ℕ))
    → slice_get texts number ≡ Some text → AreInOrder texts start written old → AreInOrder texts start written' new

-- whatever the texts are, what is written is a prefix of all of them in order
abbrev pub WritesPrefix : Option (List ℕ) → Option (List ℕ) → OrderView → Type 0
WritesPrefix written written' old = (texts : List (List ℕ)) (start : Option (List ℕ))
    → AreInOrder texts start written old → AppendsPrefix start written' (concat texts)

-- the same, if this is the text of its number
abbrev pub WritesPrefixWith : ℕ → List ℕ → Option (List ℕ) → Option (List ℕ) → OrderView → Type 0
WritesPrefixWith number text written written' old = (texts : List (List ℕ)) (start : Option (List ℕ))
    → slice_get texts number ≡ Some text → AreInOrder texts start written old
    → AppendsPrefix start written' (concat texts)

-- once all texts were passed on, all of them are written in order
abbrev pub WritesAll : Option (List ℕ) → Option (List ℕ) → OrderView → Type 0
WritesAll written written' old = (texts : List (List ℕ)) (start : Option (List ℕ))
    → AreInOrder texts start written old → old.next ≡ length texts → Appends start written' (concat texts)

-- if these are the texts, and they were in order, all of them are written in order
abbrev pub FinishesWith : List (List ℕ) → Option (List ℕ) → Option (List ℕ) → OrderView → Type 0
FinishesWith texts written written' old = (start : Option (List ℕ))
    → AreInOrder texts start written old → Appends start written' (concat texts)

-- the text of a number was passed on, or waits
abbrev pub is_known : OrderView → ℕ → Bool
is_known order number = nat_lt number order.next || is_some (waiting_at order.kept number)

-- these texts, of which the first one has this number, but those that are not known are empty
abbrev pub known_of : OrderView → ℕ → List (List ℕ) → List (List ℕ)
known_of order number [] = []
known_of order number (text ∷ later) =
    (if is_known order number then text else []) ∷ known_of order (number + 1) later

-- whatever the texts are, those that are known are written in order, and then this last one
abbrev pub FinishesKnown : List ℕ → Option (List ℕ) → Option (List ℕ) → OrderView → Type 0
FinishesKnown last written written' old = (texts : List (List ℕ)) (start : Option (List ℕ))
    → AreInOrder texts start written old → Appends start written' (concat (known_of old 0 texts) ++ last)

-- if there is memory for it, a text waits at its number
pub record Keeps (number : ℕ) (text : List ℕ) (old new : OrderView) : Type 0 where
  pub next : new.next ≡ old.next
  pub pending : new.pending ≡ old.pending
  pub count : length new.kept ≡ length old.kept
  pub others : (other : ℕ) → other ≢ number → waiting_at new.kept other ≡ waiting_at old.kept other
  pub own : (kept : Vec ℕ Global) → number < length old.kept → waiting_at new.kept number ≡ Some kept
      → kept.items ≡ text

-- the next text was passed on if it waited, and is behind the order now; where it did not wait it counts as empty
pub record GoesPast (written written' : Option (List ℕ)) (old new : OrderView) : Type 0 where
  pub next : new.next ≡ old.next + 1
  pub count : length new.kept ≡ length old.kept
  pub later : (number : ℕ) → old.next < number → waiting_at new.kept number ≡ waiting_at old.kept number
  pub order : (texts : List (List ℕ)) (start : Option (List ℕ)) → old.next < length texts
      → (waiting_at old.kept old.next ≡ None → text_at texts old.next ≡ [])
      → AreInOrder texts start written old → AreInOrder texts start written' new
