-- The longest line of a session or history; the code's constant is this.
use Rattle.std.specs.Prelude.{ℕ}

-- the most octets of such a line, without its end
abbrev pub max_long_line : ℕ
max_long_line = 2097152
