-- The words of a line, between single spaces.
-- Used by the contracts that read command lines.
use Rattle.std.specs.Prelude.{◌≡◌, ◌==◌, ◌&&◌, nat_le, ℕ, Bool, List, [], ◌∷◌, Option, Some, None, length}
use Rattle.std.specs.List.{slice_split}
use Rattle.std.specs.Borrow.{Bor}
use Rattle.line_text.specs.declared.words.Words.{Words}
use Rattle.robots_text.specs.Octets.{space}

-- the octet is a space
abbrev pub is_space : ℕ → Bool
is_space octet = octet == space

-- the words of a text, in order
abbrev pub words_of : List ℕ → List (List ℕ)
words_of text = slice_split is_space text

-- the words of the remaining text, if any
abbrev pub words_of_rest : Option (Bor (List ℕ)) → List (List ℕ)
words_of_rest None = []
words_of_rest (Some text) = words_of text.now

-- the unread words
abbrev pub words_left : Words → List (List ℕ)
words_left words = words_of_rest words.rest

-- the word is empty
abbrev pub is_empty_word : List ℕ → Bool
is_empty_word word = length word == 0

-- the first word is returned, if any, and the others are left
abbrev pub GivesWord : List (List ℕ) → Option (Bor (List ℕ)) → List (List ℕ) → Type 0
GivesWord old None new = (old ≡ []) × (new ≡ [])
GivesWord old (Some word) new = old ≡ word.now ∷ new

-- the number of words is in this range
abbrev pub is_count_within : ℕ → ℕ → List (List ℕ) → Bool
is_count_within least most words = nat_le least (length words) && nat_le (length words) most
