-- The limits of sessions; the code's constants are these.
use Rattle.std.specs.Prelude.{ℕ}

-- the most lines of a session
abbrev pub max_lines : ℕ
max_lines = 1000000

-- the most octets of a client's line
abbrev pub max_client_line : ℕ
max_client_line = 8192
