-- Octets in a line of text, one by one: in lower case, or escaped.
-- RFC 3986, sections 2.1 and 2.3, for the escapes.
use Rattle.std.specs.Prelude.{ℕ, Bool, ◌==◌, ◌&&◌, nat_le, List, [], ◌∷◌, Option, Some, None, flat_map, if◌then◌else◌}
use Rattle.std.specs.Char.{to_ascii_lowercase}
use Rattle.percent_encoding.specs.Percent.{percent_encode_byte}
use Rattle.path_normal.specs.Normal.{is_unreserved}
use Rattle.line_text.specs.declared.octets.Spelling.{Spelling}
use Rattle.line_text.specs.declared.octets.Spelling.TheVariants.{LowerCase, Escaped, Body}

-- an octet from 33 to 126
abbrev pub is_plain : ℕ → Bool
is_plain octet = nat_le 33 octet && nat_le octet 126

-- an octet from 33 to 126 unchanged, others as "%" and two upper-case hexadecimal digits
abbrev pub escaped_octet : ℕ → List ℕ
escaped_octet octet =
    if is_plain octet then octet ∷ []
    else percent_encode_byte octet

-- the octets, escaped
abbrev pub escaped : List ℕ → List ℕ
escaped octets = flat_map escaped_octet octets

-- an unreserved octet unchanged, others as "%" and two upper-case hexadecimal digits
abbrev pub body_octet : ℕ → List ℕ
body_octet octet =
    if is_unreserved octet then octet ∷ []
    else percent_encode_byte octet

-- the escaped octets of a body
abbrev pub escaped_body : List ℕ → List ℕ
escaped_body octets = flat_map body_octet octets

-- the text of an octet
abbrev pub spelled_octet : Spelling → ℕ → List ℕ
spelled_octet LowerCase octet = to_ascii_lowercase octet ∷ []
spelled_octet Escaped octet = escaped_octet octet
spelled_octet Body octet = body_octet octet

-- the octet is written unchanged
abbrev pub is_as_is : Spelling → ℕ → Bool
is_as_is LowerCase octet = to_ascii_lowercase octet == octet
is_as_is Escaped octet = is_plain octet
is_as_is Body octet = is_unreserved octet

-- the octet written for another, or that one's escape
abbrev pub plain_or_escape : ℕ → Option ℕ → List ℕ
plain_or_escape octet (Some plain) = plain ∷ []
plain_or_escape octet None = percent_encode_byte octet
