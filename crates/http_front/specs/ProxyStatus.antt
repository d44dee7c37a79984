-- The value of Proxy-Status: whose answer a response is, and why.
-- RFC 9209, section 2; RFC 8941, sections 3.1, 3.1.2 and 3.3.3.
use Rattle.std.specs.Prelude.{ℕ, ◌==◌, Bool, true, false, ◌||◌, List, [], ◌∷◌, ◌++◌, codes, decimal, flat_map, if◌then◌else◌}

-- an octet of a string: a quotation mark and a backslash follow a backslash
abbrev pub quoted_octet : ℕ → List ℕ
quoted_octet octet = if octet == 34 || octet == 92 then 92 ∷ (octet ∷ []) else octet ∷ []

-- the octets in a string
abbrev pub quoted : List ℕ → List ℕ
quoted octets = flat_map quoted_octet octets

-- the name of the parameter with the details, and the begin of its string
unfoldable pub details_begin : List ℕ
details_begin = codes "; details=\""

-- the end of a string
unfoldable pub details_end : List ℕ
details_end = codes "\""

-- the parameter with the details
abbrev pub details_part : List ℕ → List ℕ
details_part details = details_begin ++ (quoted details ++ details_end)

-- the parameter with the type of an error, if there is one
abbrev pub error_part : List ℕ → List ℕ
error_part [] = []
error_part (octet ∷ octets) = codes "; error=" ++ (octet ∷ octets)

-- the gate's own answer, with the type of its error, if there is one
abbrev pub own_value : List ℕ → List ℕ → List ℕ
own_value error details = codes "crawlgate" ++ (error_part error ++ details_part details)

-- the type of error of a page that is passed on: that it is cut
abbrev pub cut_error : Bool → List ℕ
cut_error true = codes "http_response_body_size"
cut_error false = []

-- a site's answer with this status, of which the rest may be cut
abbrev pub passed_value : ℕ → Bool → List ℕ → List ℕ
passed_value status cut details =
    codes "crawlgate; received-status=" ++ (decimal status ++ (error_part (cut_error cut) ++ details_part details))
