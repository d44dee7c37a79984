-- What the iterators over a head's fields have left.
-- Cited by their `next`.
use Rattle.std.specs.Prelude.{List, [], ◌++◌, ℕ, map, drop, flat_map, All, ◌≡◌, ◌==◌, ◌∷◌, false, Option, None, Some}
use Rattle.std.specs.Borrow.{Bor}
use Rattle.httparse.specs.Ascii.{comma}
use Rattle.http_wire.specs.Fields.{Pair, members, values_of}
use Rattle.http_wire.specs.declared.fields.Field.{Field}
use Rattle.http_wire.specs.declared.fields.Values.{Values}
use Rattle.http_wire.specs.declared.fields.Members.{Members}

-- a field's name and its value
abbrev pub pair : Field → Pair
pair field = (field.name.now, field.value.now)

-- the names and the values of fields
abbrev pub pairs : List Field → List Pair
pairs fields = map pair fields

-- the values of the remaining fields
abbrev pub values_left : Values → List (List ℕ)
values_left values = values_of values.name.now (pairs (drop values.seen values.fields.now))

-- the members after a comma, if there was one
abbrev pub members_after : Option (Bor (List ℕ)) → List (List ℕ)
members_after None = []
members_after (Some rest) = members rest.now

-- the members of the current and the remaining values
abbrev pub members_left : Members → List (List ℕ)
members_left list = members_after list.rest ++ flat_map members (values_left list.values)

-- the text has no comma
abbrev pub HasNoComma : List ℕ → Type 0
HasNoComma text = All (λ octet. (octet == comma) ≡ false) text

-- the list's first comma is between the member and the rest
pub record IsSplitAtComma (list member rest : List ℕ) : Type 0 where
  pub plain : HasNoComma member
  pub parts : list ≡ member ++ comma ∷ rest

-- the octets of a text, if there is one
abbrev pub text_of : Option (Bor (List ℕ)) → Option (List ℕ)
text_of None = None
text_of (Some text) = Some text.now
