-- The fields of a request that its visit hands on to the site.
-- RFC 9110, sections 12.5.1, 12.5.4, 13.1.2 and 13.1.3.
use Rattle.std.specs.Prelude.{◌≡◌, ℕ, List, Option, Some, None, Result, Ok, Err, codes}
use Rattle.http_header.specs.FieldValue.{FieldValue}
use Rattle.http_header.specs.HeaderMap.{Entries}
use Rattle.http_wire.specs.FieldValues.{IsFieldValue}
use Rattle.http_wire.specs.Request.{no_fields}
use Rattle.http_wire.specs.declared.forwarded_fields.ForwardedFields.{ForwardedFields}
use Rattle.http_front.specs.Fields.{value_named}
use Rattle.http_front.specs.declared.asked.Misasked.{Misasked}
use Rattle.http_front.specs.declared.forwarding.Forwarding.{Forwarding}
use Rattle.http_front.specs.declared.forwarding.Forwarding.TheVariants.{Conditions, Nothing}

-- a value that stands once is handed on exactly if it may be one of a request
abbrev pub HandsOn : Result (Option (List ℕ)) Misasked → Option (List ℕ) → Type 0
HandsOn (Ok (Some value)) (Some handed) = (handed ≡ value) × IsFieldValue value
HandsOn (Ok (Some value)) None = ¬ (IsFieldValue value)
HandsOn (Ok None) handed = handed ≡ None
HandsOn (Err why) handed = handed ≡ None

-- the value of this name, in any case
abbrev pub HandsOnNamed : List ℕ → Entries FieldValue → Option (List ℕ) → Type 0
HandsOnNamed name headers handed = HandsOn (value_named name headers) handed

-- these are the fields that are handed on: each under its own name, or none
abbrev pub AreHandedOn : Forwarding → Entries FieldValue → ForwardedFields → Type 0
AreHandedOn Nothing headers fields = fields ≡ no_fields
AreHandedOn Conditions headers fields =
    HandsOnNamed (codes "if-none-match") headers fields.if_none_match
    × (HandsOnNamed (codes "if-modified-since") headers fields.if_modified_since
    × (HandsOnNamed (codes "accept") headers fields.accept
    × HandsOnNamed (codes "accept-language") headers fields.accept_language))
