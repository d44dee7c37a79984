-- The values of one name among the fields of a request.
-- RFC 9110, section 5.3.
use Rattle.std.specs.Prelude.{ℕ, Bool, List, [], ◌∷◌, Option, Some, None, is_some, Result, Ok, Err, if◌then◌else◌}
use Rattle.std.specs.Str.{is_utf8}
use Rattle.http_header.specs.FieldValue.{FieldValue}
use Rattle.http_header.specs.HeaderMap.{Entries, get, get_all}
use Rattle.http_header.specs.Token.{lowercase}
use Rattle.http_front.specs.declared.asked.Misasked.{Misasked}
use Rattle.http_front.specs.declared.asked.Misasked.TheVariants as misasked

-- the value, or none; several are a fault
abbrev pub sole : List FieldValue → Result (Option (List ℕ)) Misasked
sole [] = Ok None
sole (value ∷ []) = Ok (Some value.bytes)
sole (value ∷ (other ∷ others)) = Err misasked.Twice

-- the value of this name, in any case
abbrev pub value_named : List ℕ → Entries FieldValue → Result (Option (List ℕ)) Misasked
value_named name headers = sole (get_all headers (lowercase name))

-- there is a field of this name
abbrev pub has_field : List ℕ → Entries FieldValue → Bool
has_field name headers = is_some (get headers (lowercase name))

-- the octets as text, if they are UTF-8
abbrev pub text_of : List ℕ → Option (List ℕ)
text_of octets = if is_utf8 octets then Some octets else None
