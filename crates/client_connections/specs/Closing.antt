-- What is read from a closing connection.
-- Used by `read_out`.
use Rattle.std.specs.Prelude.{ℕ, ◌≤◌, List, length, Option}
use Rattle.std.specs.Io.KnownBytes.{Consumes}

-- the most seconds of reading
abbrev pub closing_seconds : ℕ
closing_seconds = 1

-- the most octets of reading
abbrev pub closing_octets : ℕ
closing_octets = 65536

-- at most this many known octets are taken
abbrev pub TakesAtMost : ℕ → Option (List ℕ) → Option (List ℕ) → Type 0
TakesAtMost most old new = (octets : List ℕ) × Consumes old new octets × (length octets ≤ most)

-- no more octets are taken than allowed
abbrev pub TakesFew : Option (List ℕ) → Option (List ℕ) → Type 0
TakesFew old new = TakesAtMost closing_octets old new
