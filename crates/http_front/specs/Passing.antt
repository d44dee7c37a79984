-- What of a site's response is passed on.
-- RFC 9110, sections 7.6, 10.2.2, 15.3.5, 15.3.6 and 15.4.5.
use Rattle.std.specs.Prelude.{ℕ, ◌==◌, nat_le, Bool, ◌&&◌, ◌||◌, List, [], ◌∷◌, ◌++◌, codes, Option, Some, None, Result, Ok, Err, flat_map, if◌then◌else◌}
use Rattle.std.specs.List.{list_all}
use Rattle.http1.specs.Fields.{Header}
use Rattle.http_header.specs.Token.{is_value_byte, lowercase}
use Rattle.http_wire.specs.Fields.{Pair}
use Rattle.path_normal.specs.Capacity.{Enough}
use Rattle.path_normal.specs.PageUrl.{page_url_on_among}
use Rattle.path_normal.specs.declared.fault.UrlFault.{UrlFault}
use Rattle.path_normal.specs.declared.schemes.Schemes.{Schemes}
use Rattle.robots_text.specs.Words.{is_same_word}
use Rattle.http_front.specs.Fields.{text_of}
use Rattle.http_front.specs.declared.asked.TargetForm.{TargetForm}
use Rattle.http_front.specs.declared.asked.TargetForm.TheVariants.{Absolute, Path}

-- a site's status; another number than a final status is none
abbrev pub site_status : ℕ → ℕ
site_status status = if nat_le 200 status && nat_le status 999 then status else 502

-- a response of this status has no body
abbrev pub is_bodiless : ℕ → Bool
is_bodiless status = status == 204 || status == 205 || status == 304

-- the body that is passed on
abbrev pub passed_body : ℕ → List ℕ → List ℕ
passed_body status octets = if is_bodiless status then [] else octets

-- a field, its name in lower case, unless its value is none that a field may have
abbrev pub sent_field : List ℕ → List ℕ → List Header
sent_field name value = if list_all is_value_byte value then (lowercase name, value) ∷ [] else []

-- where a redirect leads, as a target in path form; nothing if that is no page
abbrev pub led_to : Result (List ℕ) UrlFault → List Header
led_to (Ok target) = sent_field (codes "location") (codes "/" ++ target)
led_to (Err fault) = []

-- where this text leads from a page
abbrev pub led_by : Schemes → List ℕ → Option (List ℕ) → List Header
led_by schemes url (Some text) = led_to (page_url_on_among schemes url text Enough)
led_by schemes url None = []

-- what is passed on of a kept field: all, but for Location in path form, by which a client would pass the gate by
abbrev pub passed_field : Schemes → TargetForm → List ℕ → Pair → List Header
passed_field schemes Absolute url field = sent_field field.0 field.1
passed_field schemes Path url field =
    if is_same_word field.0 (codes "location") then led_by schemes url (text_of field.1)
    else sent_field field.0 field.1

-- the fields that are passed on, in order
abbrev pub passed_fields : Schemes → TargetForm → List ℕ → List Pair → List Header
passed_fields schemes form url kept = flat_map (passed_field schemes form url) kept
