-- The limits of doors.
-- The contracts of `Doors` and `retry_after` cite them.
use Rattle.std.specs.Prelude.{◌-◌, ◌^◌, ℕ}

-- the most sites that have a door
abbrev pub most_sites : ℕ
most_sites = 65_536

-- the moment that never comes, in milliseconds
abbrev pub never : ℕ
never = 2 ^ 64 - 1

-- the longest pause that a site's reply sets, in seconds
abbrev pub most_pause : ℕ
most_pause = 3_600
