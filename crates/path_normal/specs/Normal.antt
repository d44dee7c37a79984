-- The normal form of a path or a pattern, unit by unit.
-- RFC 9309, section 2.2.2; RFC 3986, section 2.
use Rattle.std.specs.Prelude.{ℕ, ◌+◌, ◌-◌, ◌*◌, Bool, true, false, not, ◌&&◌, ◌||◌, ◌==◌, List, [], ◌∷◌, ◌++◌, length, take, slice_index, codes, if◌then◌else◌}
use Rattle.std.specs.List.{flat_map, list_any}
use Rattle.std.specs.Char.{digit_value, is_digit, is_ascii_alphanumeric}
use Rattle.percent_encoding.specs.Percent.{percent_encode_byte}
use Rattle.path_normal.specs.Octets.{is_one_of, dollar_sign, star}
use Rattle.path_normal.specs.declared.normal.Octet.{Octet}
use Rattle.path_normal.specs.declared.normal.Role.{Role}
use Rattle.path_normal.specs.declared.normal.Role.TheVariants.{Path, Pattern}
use Rattle.url.specs.Ascii.{percent_sign}

-- `%` and two hexadecimal digits
abbrev pub is_escape : ℕ → ℕ → ℕ → Bool
is_escape octet high low = octet == percent_sign && is_digit high 16 && is_digit low 16

-- the octet stands for itself
abbrev pub plain : ℕ → Octet
plain octet = record { escaped = false; value = octet }

-- the octet escaped by these two digits
abbrev pub octet_escaped : ℕ → ℕ → Octet
octet_escaped high low = record { escaped = true; value = 16 * digit_value high + digit_value low }

-- the units of a text: escapes, and all other octets
abbrev pub units : List ℕ → List Octet
units [] = []
units (octet ∷ []) = plain octet ∷ []
units (octet ∷ next ∷ []) = plain octet ∷ plain next ∷ []
units (octet ∷ high ∷ low ∷ rest) =
    if is_escape octet high low then octet_escaped high low ∷ units rest
    else plain octet ∷ units (high ∷ low ∷ rest)

-- unreserved: a letter, a digit, or one of the four others
abbrev pub is_unreserved : ℕ → Bool
is_unreserved octet = is_ascii_alphanumeric octet || is_one_of (codes "-._~") octet

-- one of the gen-delims
abbrev pub is_gen_delim : ℕ → Bool
is_gen_delim octet = is_one_of (codes ":/?#[]@") octet

-- one of the sub-delims
abbrev pub is_sub_delim : ℕ → Bool
is_sub_delim octet = is_one_of (codes "!$&'()*+,;=") octet

-- reserved: one of the gen-delims or the sub-delims
abbrev pub is_reserved : ℕ → Bool
is_reserved octet = is_gen_delim octet || is_sub_delim octet

-- a special character of patterns: `$`, and in a path `*` too, since in a pattern `*` means itself
abbrev pub is_sign : Role → ℕ → Bool
is_sign Path octet = octet == dollar_sign || octet == star
is_sign Pattern octet = octet == dollar_sign

-- the unit is written as its octet: always if unreserved; if reserved, when plain and not special
abbrev pub is_kept : Role → Octet → Bool
is_kept role unit =
    is_unreserved unit.value
    || (not unit.escaped && is_reserved unit.value && not (is_sign role unit.value))

-- the plain octet is written otherwise, or begins an escape
abbrev pub is_changed : Role → ℕ → Bool
is_changed role octet = not (is_kept role (plain octet))

-- the unit as written: its octet, or `%` and two digits in upper case
abbrev pub spelled : Role → Octet → List ℕ
spelled role unit =
    if is_kept role unit then unit.value ∷ [] else percent_encode_byte unit.value

-- the text with all units written so
abbrev pub normal : Role → List ℕ → List ℕ
normal role text = flat_map (spelled role) (units text)

-- the normal form of a path
abbrev pub normal_path : List ℕ → List ℕ
normal_path path = normal Path path

-- the last octet of the pattern is `$`
abbrev pub is_anchored : List ℕ → Bool
is_anchored pattern = slice_index pattern (length pattern - 1) == dollar_sign

-- the pattern without a last `$`
abbrev pub unanchored : List ℕ → List ℕ
unanchored pattern = if is_anchored pattern then take (length pattern - 1) pattern else pattern

-- each octet of the pattern but its end anchor is kept as it is written
abbrev pub is_kept_pattern : List ℕ → Bool
is_kept_pattern pattern = not (list_any (is_changed Pattern) (unanchored pattern))

-- the normal form of a pattern, which keeps a last `$`
abbrev pub normal_pattern : List ℕ → List ℕ
normal_pattern pattern =
    normal Pattern (unanchored pattern) ++ (if is_anchored pattern then codes "$" else [])
