-- First lines that end a session: HTTP request lines (RFC 9112, section 3: method, target and version), and lines
-- that are no text, as TLS begins with (RFC 8446, section 5.1).
-- Cited by `serve_from`.
use Rattle.std.specs.Prelude.{ℕ, zero, suc, ◌-◌, Bool, true, false, not, ◌||◌, ◌&&◌, List, codes, drop, length}
use Rattle.std.specs.Str.{bytes_eq}
use Rattle.command_lines.specs.CallOf.{has_line_octets}
use Rattle.command_server.specs.declared.first_line.FirstLine.{FirstLine}
use Rattle.command_server.specs.declared.first_line.FirstLine.TheVariants.{Any, NoRequest}

-- the end of an HTTP/1.0 request line
abbrev pub version_1_0 : List ℕ
version_1_0 = codes " HTTP/1.0"

-- the end of an HTTP/1.1 request line
abbrev pub version_1_1 : List ℕ
version_1_1 = codes " HTTP/1.1"

-- a line's last nine octets, or all of a shorter one
abbrev pub end_of : List ℕ → List ℕ
end_of line = drop (length line - 9) line

-- whether a line ends as a request line does
abbrev pub is_request_line : List ℕ → Bool
is_request_line line = bytes_eq (end_of line) version_1_0 || bytes_eq (end_of line) version_1_1

-- whether this is a session's first reading
abbrev pub is_first : (number : ℕ) → Bool
is_first zero = true
is_first (suc number) = false

-- whether the session ends after this reading's line, whatever its reply
abbrev pub is_turned_away : FirstLine → (number : ℕ) → List ℕ → Bool
is_turned_away Any number line = false
is_turned_away NoRequest number line = is_first number && (is_request_line line || not (has_line_octets line))
