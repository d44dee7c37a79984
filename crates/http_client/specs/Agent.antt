-- The values of User-Agent.
-- RFC 9110, sections 5.5 and 10.1.5.
use Rattle.std.specs.Prelude.{ℕ, ◌≤◌, List, All}

-- each octet is a space or a visible ASCII character, so none ends the line
abbrev pub IsAgent : List ℕ → Type 0
IsAgent agent = All (λ octet. (32 ≤ octet) × (octet ≤ 126)) agent
