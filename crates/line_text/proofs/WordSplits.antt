-- How the words of a text begin: used by the proofs of the cursor over them.
use Rattle.std.proofs.Common.{◌≡◌, ◌<◌, ◌≤◌, ◌+◌, ℕ, Bool, true, false, List, [], ◌∷◌, length, take, drop, ltb, refl, ap, subst, arith}
use Rattle.std.specs.Prelude.{Option, Some, None, cond, is_some, not}
use Rattle.std.proofs.lemmas.Bool.{true≢false}
use Rattle.std.proofs.lemmas.Bool.Decides.{nat_tests}
use Rattle.std.specs.List.{position, position_or_len, before_first, after_first}
use Rattle.std.proofs.lemmas.List.Quantifiers.{position-Some}
use Rattle.std.proofs.lemmas.List.Splits.{slice_split_none, slice_split_first}
use Rattle.std.proofs.lemmas.List.Sums.{fails_before_first, position_or_len_is, prefix_len-le-length}
use Rattle.memchr.specs.Find.{IsFirstByte}
use Rattle.robots_text.proofs.Fronts.{found_first, found_none}
use Rattle.line_text.specs.Words.{is_space, words_of}

-- what a search finds is the position
pub found_place : (p : ℕ → Bool) (text : List ℕ) (found : Option ℕ) → IsFirstByte p text found → found ≡ position p text
found_place p text None none =
    let end : position_or_len p text ≡ length text = found_none p text none in
    let past : ltb (position_or_len p text) (length text) ≡ false = grind (arith, nat_tests, end) in
    rw past refl
found_place p text (Some place) first =
    let at : position_or_len p text ≡ place = found_first p text place first in
    let high = first.0.high in
    let within : ltb (position_or_len p text) (length text) ≡ true = grind (arith, nat_tests, at, high) in
    rw (within, at) refl

pub words_of_one : (text : List ℕ) → position_or_len is_space text ≡ length text → words_of text ≡ text ∷ []
words_of_one text e =
    slice_split_none is_space text (λ k d h. fails_before_first is_space text k d (omega arith))

pub words_of_more : (text : List ℕ) → position_or_len is_space text < length text → words_of text ≡ before_first is_space text ∷ words_of (after_first is_space text)
words_of_more text h = slice_split_first is_space text 0 h

beyond : (place count : ℕ) → cond (ltb place count) (Some place) None ≡ None → count ≤ place
beyond place count none = by (ltb place count) refl none
  where
    by : (b : Bool) → ltb place count ≡ b → cond b (Some place) None ≡ None → count ≤ place
    by true at none = absurd (true≢false (ap is_some none))
    by false at none = grind (arith, nat_tests, at)

pub words_of_whole : (text : List ℕ) → position is_space text ≡ None → words_of text ≡ text ∷ []
words_of_whole text none =
    words_of_one text (omega (arith, beyond (position_or_len is_space text) (length text) none, prefix_len-le-length (λ octet. not (is_space octet)) text))

pub words_of_found : (text : List ℕ) (place : ℕ) → position is_space text ≡ Some place → words_of text ≡ take place text ∷ words_of (drop (place + 1) text)
words_of_found text place found =
    let at = position-Some is_space text place 0 found in
    let first : position_or_len is_space text ≡ place = position_or_len_is is_space text place 0 (omega (arith, at.0)) at.2 (λ _. at.1) in
    subst (λ n. words_of text ≡ take n text ∷ words_of (drop (n + 1) text)) first (words_of_more text (omega (arith, first, at.0)))
