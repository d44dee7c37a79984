-- Sets of numbers as bits of 64-bit words, and words of bits that summarize other words.
-- Used for a table's free slots (`free_slots.rt`).
use Rattle.std.specs.Prelude.{◌≡◌, ◌≢◌, ℕ, ◌/◌, ◌%◌, ◌<◌, ◌==◌, ◌&&◌, nat_lt, List, if◌then◌else◌, slice_index}
use Rattle.std.specs.Int.{bit_at}

-- bit i, from the lowest of the first word: 1 if set, else 0
abbrev pub bit_of : List ℕ → ℕ → ℕ
bit_of words i = bit_at (slice_index words (i / 64)) (i % 64)

-- only bit i may have changed, to this one
abbrev pub SetsBit : List ℕ → ℕ → ℕ → List ℕ → Type 0
SetsBit old i bit new = (j : ℕ) → bit_of new j ≡ (if j == i then bit else bit_of old j)

-- the words at other places are unchanged
abbrev pub KeepsOthers : List ℕ → ℕ → List ℕ → Type 0
KeepsOthers old place new = (k : ℕ) → k ≢ place → slice_index new k ≡ slice_index old k

-- an empty word at this place stays empty
abbrev pub KeepsEmpty : List ℕ → ℕ → List ℕ → Type 0
KeepsEmpty old place new = slice_index old place ≡ 0 → slice_index new place ≡ 0

-- exactly the first bits, this many, are set
abbrev pub AreFirst : List ℕ → ℕ → Type 0
AreFirst words count = (j : ℕ) → bit_of words j ≡ (if nat_lt j count then 1 else 0)

-- no bit is set
abbrev pub IsClear : List ℕ → Type 0
IsClear words = (j : ℕ) → bit_of words j ≡ 0

-- i is the lowest set bit
pub record IsLowestBit (words : List ℕ) (i : ℕ) : Type 0 where
  pub set : bit_of words i ≡ 1
  pub lowest : (j : ℕ) → j < i → bit_of words j ≡ 0

-- upper bit j is set exactly if lower word j is not 0
abbrev pub Summarizes : List ℕ → List ℕ → Type 0
Summarizes upper lower = (j : ℕ) → bit_of upper j ≡ (if slice_index lower j == 0 then 0 else 1)

-- only the bit for the lower word at this place is cleared, if that word is 0
abbrev pub SumsUp : List ℕ → List ℕ → ℕ → List ℕ → Type 0
SumsUp old lower place new =
    (j : ℕ) → bit_of new j ≡ (if j == place && slice_index lower place == 0 then 0 else bit_of old j)
