-- The octets with a meaning in patterns; the crate `url` has the URL Standard's.
-- RFC 9309, section 2.2.3.
use Rattle.std.specs.Prelude.{◌==◌, ℕ, Bool, List}
use Rattle.std.specs.List.{list_any}

-- `*`
abbrev pub star : ℕ
star = 42

-- `$`
abbrev pub dollar_sign : ℕ
dollar_sign = 36

-- the octet is one of these
abbrev pub is_one_of : List ℕ → ℕ → Bool
is_one_of octets octet = list_any (λ one. octet == one) octets
