-- The sizes of the buffers, in octets.
-- `LineReader::next_line_to` and `Output::push` ensure that their constants are these.
use Rattle.std.specs.Prelude.{ℕ}

-- the most octets of a line reader's read
abbrev pub line_buffer : ℕ
line_buffer = 65536

-- the most octets of an output's buffer
abbrev pub output_buffer : ℕ
output_buffer = 65536
