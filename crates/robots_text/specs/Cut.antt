-- Where a line's front ends, and the text after a line end.
-- Cited by the contracts that cut a text into lines.
use Rattle.std.specs.Prelude.{ℕ, ◌&&◌, ◌||◌, ◌==◌, Bool, List, [], ◌∷◌, if◌then◌else◌}
use Rattle.robots_text.specs.Octets.{carriage_return, line_feed, number_sign}

-- the text without a leading CR LF, or without its first octet
abbrev pub behind_end : List ℕ → List ℕ
behind_end [] = []
behind_end (octet ∷ []) = []
behind_end (octet ∷ next ∷ text) = if octet == carriage_return && next == line_feed then text else next ∷ text

-- the octet ends a line, or begins its comment
abbrev pub ends_front : ℕ → Bool
ends_front octet = octet == carriage_return || octet == line_feed || octet == number_sign
