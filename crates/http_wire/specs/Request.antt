-- The request for a page.
-- RFC 9112, sections 3, 5, 9.3 and 9.6; RFC 9110, sections 7.2, 10.1.5, 12.5.1, 12.5.3, 12.5.4, 13.1.2 and 13.1.3.
use Rattle.std.specs.Prelude.{ℕ, List, [], ◌++◌, codes, Option, None, Some}
use Rattle.std.specs.List.{flat_map}
use Rattle.std.specs.Borrow.{Bor}
use Rattle.httparse.specs.Ascii.{crlf_bytes}
use Rattle.http_wire.specs.declared.ending.ConnectionEnding.{ConnectionEnding}
use Rattle.http_wire.specs.declared.ending.ConnectionEnding.TheVariants.{Close, KeepAlive}
use Rattle.http_wire.specs.declared.forwarded_fields.ForwardedFields.{ForwardedFields}

-- request-line = method SP request-target SP HTTP-version CRLF
abbrev pub request_line : List ℕ → List ℕ
request_line target = codes "GET " ++ (target ++ (codes " HTTP/1.1" ++ crlf_bytes))

-- field-line = field-name ":" OWS field-value OWS, and its CRLF
abbrev pub field_line : List ℕ → List ℕ → List ℕ
field_line name value = name ++ (codes ": " ++ (value ++ crlf_bytes))

-- a GET for a target of a host with any port: any media type, no content coding, no further request
abbrev pub request : List ℕ → List ℕ → List ℕ → List ℕ
request target host agent =
    request_line target
    ++ (field_line (codes "Host") host
    ++ (field_line (codes "User-Agent") agent
    ++ (field_line (codes "Accept") (codes "*/*")
    ++ (field_line (codes "Accept-Encoding") (codes "identity")
    ++ (field_line (codes "Connection") (codes "close") ++ crlf_bytes)))))

-- no fields that are handed on
abbrev pub no_fields : ForwardedFields
no_fields = record { if_none_match = None; if_modified_since = None; accept = None; accept_language = None }

-- the line of a value after what begins it, if there is a value
abbrev pub line_after : List ℕ → Option (List ℕ) → List ℕ
line_after begin None = []
line_after begin (Some value) = begin ++ (value ++ crlf_bytes)

-- the field-line of a value, if there is one
abbrev pub field_line_if : List ℕ → Option (List ℕ) → List ℕ
field_line_if name None = []
field_line_if name (Some value) = field_line name value

-- the option for the connection; one that is kept alive needs none, since HTTP/1.1 keeps it
abbrev pub closing_value : ConnectionEnding → Option (List ℕ)
closing_value Close = Some (codes "close")
closing_value KeepAlive = None

-- a GET like that, with these fields before the last one, which a connection that is kept alive leaves out
abbrev pub request_with : ConnectionEnding → ForwardedFields → List ℕ → List ℕ → List ℕ → List ℕ
request_with ending fields target host agent =
    request_line target
    ++ (field_line (codes "Host") host
    ++ (field_line (codes "User-Agent") agent
    ++ (field_line (codes "Accept") (codes "*/*")
    ++ (field_line (codes "Accept-Encoding") (codes "identity")
    ++ (field_line_if (codes "If-None-Match") fields.if_none_match
    ++ (field_line_if (codes "If-Modified-Since") fields.if_modified_since
    ++ (field_line_if (codes "Accept") fields.accept
    ++ (field_line_if (codes "Accept-Language") fields.accept_language
    ++ (field_line_if (codes "Connection") (closing_value ending) ++ crlf_bytes)))))))))

-- the octets of pieces in a row
abbrev pub joined_pieces : List (Bor (List ℕ)) → List ℕ
joined_pieces pieces = flat_map (λ piece. piece.now) pieces
