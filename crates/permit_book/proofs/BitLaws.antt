-- How a write of one word changes the bits, and what two levels of words keep.
-- Used by the proofs of `words.rt` and `free_slots.rt`.
use Rattle.std.proofs.Common.{◌≡◌, ◌≢◌, ℕ, zero, ◌+◌, ◌*◌, ◌/◌, ◌%◌, ◌<◌, ◌==◌, ◌^◌, true, false, cond, suc, nat_lt, List, [], ◌∷◌, length, slice_index, set, w64, inl, inr, refl, sym, ap, ◌∙◌, arith}
use Rattle.std.specs.Int.{bit_at, trailing_zeros}
use Rattle.std.proofs.lemmas.Bool.{lt-ltb, le-ltb}
use Rattle.std.proofs.lemmas.Bool.Decides.{eqb_tells, leb_tells}
use Rattle.std.proofs.lemmas.List.{get_or-set_same, get_or-set_other, get_or_past}
use Rattle.std.proofs.lemmas.Nat.Bits.{bit_at-zero, bit_at-trailing_zeros}
use Rattle.permit_book.specs.Bits.{AreFirst, bit_of, IsClear, IsLowestBit, KeepsEmpty, KeepsOthers, SetsBit, Summarizes, SumsUp}

same_bit : (i j : ℕ) → j / 64 ≡ i / 64 → j % 64 ≡ i % 64 → j ≡ i
same_bit i j word place = omega arith

bit_of-empty : (words : List ℕ) (i : ℕ) → slice_index words (i / 64) ≡ 0 → bit_of words i ≡ 0
bit_of-empty words i none = rw none (bit_at-zero (i % 64))

not_empty : (words : List ℕ) (i : ℕ) → bit_of words i ≡ 1 → slice_index words (i / 64) ≢ 0
not_empty words i one none = let zero : bit_of words i ≡ 0 = bit_of-empty words i none in absurd (omega arith)

pub SetsBit-word : (words : List ℕ) (i bit word : ℕ) → i / 64 < length words → bit_at word (i % 64) ≡ bit
    → ((k : ℕ) → k < 64 → k ≢ i % 64 → bit_at word k ≡ bit_at (slice_index words (i / 64)) k)
    → SetsBit words i bit (set words (i / 64) word)
SetsBit-word words i bit word within here others j = elim (eqb_tells j i) [
  | inl e ↦ rw (e.0, e.1, get_or-set_same words (i / 64) word 0 within) here
  | inr d ↦ rw d.0 (elim (eqb_tells (j / 64) (i / 64)) [
    | inl same ↦ rw (same.1, get_or-set_same words (i / 64) word 0 within)
        (others (j % 64) (omega arith) (λ place. d.1 (same_bit i j same.1 place)))
    | inr apart ↦ rw (get_or-set_other words (i / 64) (j / 64) word 0 apart.1) refl
  ])
]

-- a bit that is so already need not be written
pub SetsBit-kept : (words : List ℕ) (i bit : ℕ) → bit_of words i ≡ bit → SetsBit words i bit words
SetsBit-kept words i bit here j = elim (eqb_tells j i) [
  | inl e ↦ rw (e.0, e.1) here
  | inr d ↦ rw d.0 refl
]

pub KeepsOthers-word : (words : List ℕ) (place word : ℕ) → KeepsOthers words place (set words place word)
KeepsOthers-word words place word k apart = get_or-set_other words place k word 0 apart

-- a changed word is summarized again once its upper bit is set
pub Summarizes-set : (upper lower upper' lower' : List ℕ) (i : ℕ) → Summarizes upper lower
    → SetsBit lower i 1 lower' → KeepsOthers lower (i / 64) lower' → SetsBit upper (i / 64) 1 upper' → Summarizes upper' lower'
Summarizes-set upper lower upper' lower' i sums bits others above j = elim (eqb_tells j (i / 64)) [
  | inl e ↦ (
      let one : bit_of lower' i ≡ 1 = bits i ∙ rw (same_number i) refl in
      let up : bit_of upper' j ≡ 1 = above j ∙ rw e.0 refl in
      let full : slice_index lower' j ≢ 0 = rw e.1 (not_empty lower' i one) in
      up ∙ sym (rw (unequal (slice_index lower' j) full) refl)
      )
  | inr d ↦ (above j ∙ rw d.0 (sums j ∙ rw (others j d.1) refl))
]
  where
    same_number : (n : ℕ) → (n == n) ≡ true
    same_number n = elim (eqb_tells n n) [ inl e ↦ e.0 | inr d ↦ absurd (d.1 refl) ]

    unequal : (n : ℕ) → n ≢ 0 → (n == 0) ≡ false
    unequal n apart = elim (eqb_tells n 0) [ inl e ↦ absurd (apart e.1) | inr d ↦ d.0 ]

-- a word that lost bits is summarized again once its upper bit was checked
pub Summarizes-lowered : (upper lower upper' lower' : List ℕ) (place : ℕ) → Summarizes upper lower
    → KeepsOthers lower place lower' → KeepsEmpty lower place lower' → SumsUp upper lower' place upper' → Summarizes upper' lower'
Summarizes-lowered upper lower upper' lower' place sums others empty above j = elim (eqb_tells j place) [
  | inl e ↦ (above j ∙ rw e.0 (elim (eqb_tells (slice_index lower' place) 0) [
    | inl none ↦ rw (e.1, none.0) refl
    | inr some ↦ (rw (e.1, some.0) (sums place ∙ rw (was_full some.1) refl))
  ]))
  | inr d ↦ (above j ∙ rw d.0 (sums j ∙ rw (others j d.1) refl))
]
  where
    was_full : slice_index lower' place ≢ 0 → (slice_index lower place == 0) ≡ false
    was_full full = elim (eqb_tells (slice_index lower place) 0) [ inl e ↦ absurd (full (empty e.1)) | inr d ↦ d.0 ]

pub empty_below : (upper lower : List ℕ) (i : ℕ) → Summarizes upper lower → bit_of upper i ≡ 0 → slice_index lower i ≡ 0
empty_below upper lower i sums clear = elim (eqb_tells (slice_index lower i) 0) [
  | inl e ↦ e.1
  | inr d ↦ (let one : bit_of upper i ≡ 1 = sums i ∙ rw d.0 refl in absurd (omega arith))
]

pub IsClear-below : (upper lower : List ℕ) → Summarizes upper lower → IsClear upper → IsClear lower
IsClear-below upper lower sums clear j = bit_of-empty lower j (empty_below upper lower (j / 64) sums (clear (j / 64)))

pub IsLowestBit-below : (upper lower : List ℕ) (place i : ℕ) → Summarizes upper lower → IsLowestBit upper place → i / 64 ≡ place
    → bit_of lower i ≡ 1 → ((j : ℕ) → j / 64 ≡ place → j < i → bit_of lower j ≡ 0) → IsLowestBit lower i
IsLowestBit-below upper lower place i sums above word one least = record {
  set = one;
  lowest = λ j below. elim (eqb_tells (j / 64) place) [
    | inl e ↦ least j e.1 below
    | inr d ↦ bit_of-empty lower j (empty_below upper lower (j / 64) sums (above.lowest (j / 64) (let apart : j / 64 ≢ place = d.1 in omega arith)))
  ];
}

pub lowest_bit : (words : List ℕ) (place : ℕ) → slice_index words place ≢ 0 → slice_index words place < 2 ^ 64 →
    (trailing_zeros w64 (slice_index words place) < 64)
    × (bit_of words (place * 64 + trailing_zeros w64 (slice_index words place)) ≡ 1)
    × ((j : ℕ) → j / 64 ≡ place → j < place * 64 + trailing_zeros w64 (slice_index words place) → bit_of words j ≡ 0)
lowest_bit words place full fits =
    let t = trailing_zeros w64 (slice_index words place) in
    let found = bit_at-trailing_zeros w64 (slice_index words place) (omega arith) fits in
    let small : t < 64 = found.0 in
    let word : (place * 64 + t) / 64 ≡ place = omega arith in
    let rest : (place * 64 + t) % 64 ≡ t = omega arith in (
      small,
      rw (word, rest) found.1,
      λ j same below. rw same (found.2 (j % 64) (omega arith)),
    )

pub within_words : (words : List ℕ) (place : ℕ) → slice_index words place ≢ 0 → place < length words
within_words words place full = elim (leb_tells (length words) place) [
  | inl e ↦ absurd (full (get_or_past words place 0 e.1))
  | inr d ↦ (let apart = d.1 in omega arith)
]

pub IsClear-one_word : (words : List ℕ) → length words ≡ 1 → slice_index words 0 ≡ 0 → IsClear words
IsClear-one_word (word ∷ []) one none j = bit_of-empty (word ∷ []) j (at (j / 64))
  where
    at : (k : ℕ) → slice_index (word ∷ []) k ≡ 0
    at zero = none
    at (suc k) = refl
IsClear-one_word [] one none j = absurd (omega arith)
IsClear-one_word (word ∷ other ∷ more) one none j = absurd (omega arith)

pub AreFirst-more : (words words' : List ℕ) (count : ℕ) → AreFirst words count → SetsBit words count 1 words' → AreFirst words' (count + 1)
AreFirst-more words words' count first more j = elim (eqb_tells j count) [
  | inl e ↦ (more j ∙ rw (e.0, lt-ltb j (count + 1) (let same : j ≡ count = e.1 in omega arith)) refl)
  | inr d ↦ (more j ∙ rw d.0 (first j ∙ ap (λ b. cond b 1 0) (same_test d.1)))
]
  where
    same_test : j ≢ count → nat_lt j count ≡ nat_lt j (count + 1)
    same_test apart = elim (leb_tells count j) [
      | inl e ↦ rw (le-ltb j count e.1, le-ltb j (count + 1) (let from = e.1 in omega arith)) refl
      | inr d ↦ rw (lt-ltb j count d.1, lt-ltb j (count + 1) (let below = d.1 in omega arith)) refl
    ]

pub SetsBit-other : (old new : List ℕ) (i bit : ℕ) → SetsBit old i bit new → (j : ℕ) → j ≢ i → bit_of new j ≡ bit_of old j
SetsBit-other old new i bit sets j apart = sets j ∙ elim (eqb_tells j i) [ inl e ↦ absurd (apart e.1) | inr d ↦ rw d.0 refl ]

pub SetsBit-here : (old new : List ℕ) (i bit : ℕ) → SetsBit old i bit new → bit_of new i ≡ bit
SetsBit-here old new i bit sets = sets i ∙ elim (eqb_tells i i) [ inl e ↦ rw e.0 refl | inr d ↦ absurd (d.1 refl) ]
