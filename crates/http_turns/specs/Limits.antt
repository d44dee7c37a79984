-- The limits of HTTP clients; docs/FORMATS.md has them.
-- `limits_are` ensures that the code's constants are these.
use Rattle.std.specs.Prelude.{ℕ}

-- the milliseconds from a request's first octet to its end
abbrev pub message_milliseconds : ℕ
message_milliseconds = 10000

-- the milliseconds that a request waits which came too early
abbrev pub later_milliseconds : ℕ
later_milliseconds = 30000

-- the octets of answers that may wait for their clients
abbrev pub most_answer_octets : ℕ
most_answer_octets = 268435456
