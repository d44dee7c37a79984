-- The limits of page URLs, in bytes.
-- Contracts compare the code's constants with them.
use Rattle.std.specs.Prelude.{ℕ}

-- the most bytes of a URL, as given and as written back
abbrev pub max_url : ℕ
max_url = 4096

-- the most bytes of its authority, so that every robots.txt URL fits
abbrev pub max_authority : ℕ
max_authority = 4000
