-- The values of fields that a request for a page hands on.
-- RFC 9110, section 5.5.
use Rattle.std.specs.Prelude.{ℕ, ◌<◌, ◌≤◌, List, length, All}

-- a space or a visible ASCII character
abbrev pub IsFieldOctet : ℕ → Type 0
IsFieldOctet octet = (32 ≤ octet) × (octet ≤ 126)

-- 1 to 1,024 such octets, so none ends the line
abbrev pub IsFieldValue : List ℕ → Type 0
IsFieldValue octets = (0 < length octets) × (length octets ≤ 1024) × All IsFieldOctet octets
