-- Product tokens, and the octets that write them.
-- RFC 9309, section 2.2.1.
use Rattle.std.specs.Prelude.{ℕ, Bool, ◌&&◌, ◌||◌, ◌==◌, nat_lt, nat_le, List, map, length, Option, Some, None, if◌then◌else◌}
use Rattle.std.specs.List.{list_all}
use Rattle.std.specs.Char.{is_ascii_alphabetic, to_ascii_lowercase}
use Rattle.robots_text.specs.Octets.{hyphen, underscore}

-- a letter, `-` or `_`
abbrev pub is_token_octet : ℕ → Bool
is_token_octet octet = is_ascii_alphabetic octet || octet == hyphen || octet == underscore

-- the most octets of a product token
abbrev pub token_limit : ℕ
token_limit = 64

-- one to the limit, all token octets
abbrev pub is_token : List ℕ → Bool
is_token octets =
    nat_lt 0 (length octets) && nat_le (length octets) token_limit && list_all is_token_octet octets

-- the octets in lower case
abbrev pub lower_case : List ℕ → List ℕ
lower_case octets = map to_ascii_lowercase octets

-- the token that the octets write, in lower case, if any
abbrev pub token_of : List ℕ → Option (List ℕ)
token_of octets = if is_token octets then Some (lower_case octets) else None
