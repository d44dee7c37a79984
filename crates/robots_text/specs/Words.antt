-- Words in any case.
-- RFC 9309, sections 2.2 and 2.2.1; RFC 9110, section 5.1.
use Rattle.std.specs.Prelude.{ℕ, Bool, List, bytes_eq}
use Rattle.robots_text.specs.Token.{lower_case}

-- the words are equal in any case
abbrev pub is_same_word : List ℕ → List ℕ → Bool
is_same_word one other = bytes_eq (lower_case one) (lower_case other)
