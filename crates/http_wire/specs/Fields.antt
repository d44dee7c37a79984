-- What the fields of a head say of the body.
-- RFC 9112, section 6.3; RFC 9110, sections 5.6.1, 8.4 and 8.6.
use Rattle.std.specs.Prelude.{◌≡◌, ℕ, Bool, ◌&&◌, ◌||◌, not, nat_lt, nat_le, ◌==◌, if◌then◌else◌, List, [], ◌∷◌, map, length, flat_map, codes, IsUtf8, Option, None, Some, Result, Ok, Err}
use Rattle.std.specs.List.{list_all, list_any}
use Rattle.std.specs.Str.Parse.{digits_value}
use Rattle.httparse.specs.Ascii.{comma}
use Rattle.httparse.specs.Grammar.{trim_ows}
use Rattle.line_text.specs.Number.{is_number}
use Rattle.robots_text.specs.Words.{is_same_word}
use Rattle.http_wire.specs.declared.framing.Framing.{Framing}
use Rattle.http_wire.specs.declared.framing.Framing.TheVariants.{Counted, Chunked, ToEnd}
use Rattle.http_wire.specs.declared.framing.Unframed.{Unframed}
use Rattle.http_wire.specs.declared.framing.Unframed.TheVariants.{BadLength, OtherCoding}

-- a name and its value
abbrev pub Pair : Type 0
Pair = List ℕ × List ℕ

-- the value, if the field's name is this in any case
abbrev pub value_if : List ℕ → Pair → List (List ℕ)
value_if name field = if is_same_word field.0 name then field.1 ∷ [] else []

-- the values of the fields with this name, in order
abbrev pub values_of : List ℕ → List Pair → List (List ℕ)
values_of name fields = flat_map (value_if name) fields

-- an octet put before the first piece
abbrev pub onto_first : ℕ → List (List ℕ) → List (List ℕ)
onto_first octet [] = (octet ∷ []) ∷ []
onto_first octet (piece ∷ pieces) = (octet ∷ piece) ∷ pieces

-- the pieces between commas
abbrev pub pieces : List ℕ → List (List ℕ)
pieces [] = [] ∷ []
pieces (octet ∷ value) = if octet == comma then [] ∷ pieces value else onto_first octet (pieces value)

-- members of a list without surrounding white space, empty ones too
unfoldable pub members : List ℕ → List (List ℕ)
members value = map trim_ows (pieces value)

-- members of all fields with this name, in order
abbrev pub members_of : List ℕ → List Pair → List (List ℕ)
members_of name fields = flat_map members (values_of name fields)

-- 1*DIGIT: the text writes this number, below 2 to the 64
abbrev pub is_number_of : ℕ → List ℕ → Bool
is_number_of n member = is_number member && (digits_value 10 member == n)

-- the number that all members write
abbrev pub counted : List ℕ → List (List ℕ) → Result Framing Unframed
counted member others =
    let n = digits_value 10 member in
    if is_number member && list_all (is_number_of n) others then Ok (Counted n) else Err BadLength

-- the only coding is `chunked`
abbrev pub chunked : List ℕ → List (List ℕ) → Result Framing Unframed
chunked coding [] = if is_same_word coding (codes "chunked") then Ok Chunked else Err OtherCoding
chunked coding (_ ∷ _) = Err OtherCoding

-- the framing by Transfer-Encoding and Content-Length
abbrev pub framed_by : List (List ℕ) → List (List ℕ) → Result Framing Unframed
framed_by [] [] = Ok ToEnd
framed_by [] (member ∷ others) = counted member others
framed_by (coding ∷ codings) lengths = chunked coding codings

-- a head of this status has no body
abbrev pub is_bodiless : ℕ → Bool
is_bodiless status = (status == 204) || (status == 304)

-- the framing after a head, in this order, or why there is none
abbrev pub framing_of : ℕ → List Pair → Result Framing Unframed
framing_of status fields =
    if is_bodiless status then Ok (Counted 0)
    else framed_by (members_of (codes "transfer-encoding") fields) (members_of (codes "content-length") fields)

-- the content has no coding
abbrev pub is_unencoded : List ℕ → Bool
is_unencoded coding = (length coding == 0) || is_same_word coding (codes "identity")

-- some content coding is named
abbrev pub has_coding : List Pair → Bool
has_coding fields = list_any (λ coding. not (is_unencoded coding)) (values_of (codes "content-encoding") fields)

-- the body would be used, and has a content coding
abbrev pub is_coded : ℕ → List Pair → Bool
is_coded status fields = nat_le 200 status && (nat_lt status 300 && has_coding fields)

-- the first value, if any and UTF-8
abbrev pub IsFirstText : List (List ℕ) → Option (List ℕ) → Type 0
IsFirstText [] text = text ≡ None
IsFirstText (value ∷ values) None = ¬ (IsUtf8 value)
IsFirstText (value ∷ values) (Some text) = IsUtf8 value × (text ≡ value)

-- where a redirect leads
abbrev pub IsLocation : List Pair → Option (List ℕ) → Type 0
IsLocation fields text = IsFirstText (values_of (codes "location") fields) text
