-- The fields of a head that are kept for a client to which the page is passed on.
-- RFC 9110, sections 5, 6.6.1, 8, 10.2 and 12.5.5; RFC 9111, section 5; RFC 8288; RFC 9309, section 1.
use Rattle.std.specs.Prelude.{◌≡◌, ℕ, Bool, ◌||◌, if◌then◌else◌, List, [], ◌∷◌, map, codes}
use Rattle.httparse.specs.Grammar.{ResponseHead}
use Rattle.robots_text.specs.Words.{is_same_word}
use Rattle.http_wire.specs.Fields.{Pair}
use Rattle.http_wire.specs.Heads.{HasHead, head_fields}
use Rattle.http_wire.specs.declared.kept_fields.KeptField.{KeptField}

-- the field describes the body
abbrev pub is_of_content : List ℕ → Bool
is_of_content name =
    is_same_word name (codes "content-disposition")
    || is_same_word name (codes "content-encoding")
    || is_same_word name (codes "content-language")
    || is_same_word name (codes "content-location")
    || is_same_word name (codes "content-type")

-- the field says when the response was made, or how long it may be used
abbrev pub is_of_time : List ℕ → Bool
is_of_time name =
    is_same_word name (codes "age")
    || is_same_word name (codes "cache-control")
    || is_same_word name (codes "date")
    || is_same_word name (codes "expires")

-- the field tells this version of the page from others
abbrev pub is_of_version : List ℕ → Bool
is_of_version name =
    is_same_word name (codes "etag")
    || is_same_word name (codes "last-modified")
    || is_same_word name (codes "vary")

-- the field refers to other pages, or says what a crawler may do and when
abbrev pub is_of_crawling : List ℕ → Bool
is_of_crawling name =
    is_same_word name (codes "link")
    || is_same_word name (codes "location")
    || is_same_word name (codes "retry-after")
    || is_same_word name (codes "x-robots-tag")

-- a field of this name, in any case, is kept
abbrev pub is_kept : List ℕ → Bool
is_kept name = is_of_content name || is_of_time name || is_of_version name || is_of_crawling name

-- the fields that are kept, in order
abbrev pub kept_of : List Pair → List Pair
kept_of [] = []
kept_of (field ∷ fields) = if is_kept field.0 then field ∷ kept_of fields else kept_of fields

-- a kept field's name and its value
abbrev pub kept_pair : KeptField → Pair
kept_pair field = (field.name.items, field.value.items)

-- the names and the values of kept fields
abbrev pub kept_pairs : List KeptField → List Pair
kept_pairs fields = map kept_pair fields

-- these fields are kept of the octets: those of the head that they are, or none if they are no head
pub record KeepsOf (octets : List ℕ) (kept : List Pair) : Type 0 where
  pub head : (head : ResponseHead) → HasHead octets head [] → kept ≡ kept_of (head_fields head)
  pub no_head : ((head : ResponseHead) → ¬ (HasHead octets head [])) → kept ≡ []
