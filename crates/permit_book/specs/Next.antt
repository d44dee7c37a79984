-- The next grant's number: the lowest free slot's, in the next generation.
-- Used by the draft of a permit (`drafts.rt`).
use Rattle.std.specs.Prelude.{◌≡◌, ℕ, ◌+◌, ◌<◌, ◌==◌, Bool, true, false, ◌&&◌, nat_lt, if◌then◌else◌, length}
use Rattle.permit_book.specs.Numbers.{slot_of, generation_of}
use Rattle.permit_book.specs.Table.{Table, slot_at, last_in, is_free}

-- the table has this slot free
abbrev pub is_free_in : Table → ℕ → Bool
is_free_in t slot = nat_lt slot (length t.slots) && is_free (slot_at t slot)

-- the generation after a slot's last, or the first
abbrev pub generation_after : ℕ → ℕ → ℕ
generation_after first last = if last == 0 then first else last + 1

-- the lowest free slot's number, with the generation after its last
pub record IsNext (t : Table) (number : ℕ) : Type 0 where
  pub free : is_free_in t (slot_of number) ≡ true
  pub lowest : (slot : ℕ) → slot < slot_of number → is_free_in t slot ≡ false
  pub generation : generation_of number ≡ generation_after t.first_generation (last_in t (slot_of number))

-- no slot is free
abbrev pub NoneFree : Table → Type 0
NoneFree t = (slot : ℕ) → is_free_in t slot ≡ false
