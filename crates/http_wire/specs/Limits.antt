-- The limits of a response, in octets, lines and heads.
-- `read_response` ensures that the code's constants are these.
use Rattle.std.specs.Prelude.{◌≡◌, ℕ, ◌+◌, ◌-◌, min}
use Rattle.http_wire.specs.declared.limits.TheConstants.{MAX_HEAD, MAX_HEADER_LINES, MAX_INTERIM_HEADS, MAX_TRAILERS, MAX_TRAILER_BYTES, MAX_RAW, USUAL_LIMIT, LARGEST_LIMIT}

-- a head's octets, with its empty line and the empty lines before it
abbrev pub max_head : ℕ
max_head = 65536

-- the header lines of a head
abbrev pub max_header_lines : ℕ
max_header_lines = 100

-- the interim heads before the final one
abbrev pub max_interim_heads : ℕ
max_interim_heads = 8

-- the lines of the trailers
abbrev pub max_trailers : ℕ
max_trailers = 100

-- the trailers' octets, with their empty line
abbrev pub max_trailer_bytes : ℕ
max_trailer_bytes = 65536

-- a response's octets in all, with its heads, where at most usual_limit octets of its body are read
abbrev pub max_raw : ℕ
max_raw = 8388608

-- the limit of a body's octets up to which a response has no more than max_raw
abbrev pub usual_limit : ℕ
usual_limit = 1048576

-- the limit of a body's octets from which on a response has no more
abbrev pub largest_limit : ℕ
largest_limit = 67108864

-- a response's octets in all, with its heads, by the limit of its body's octets: as many more as the limit is over the
-- usual one
abbrev pub raw_limit : ℕ → ℕ
raw_limit limit = max_raw + (min limit largest_limit - usual_limit)

-- the code's constants are these numbers
pub record AreLimits : Type 0 where
  pub head : MAX_HEAD ≡ max_head
  pub header_lines : MAX_HEADER_LINES ≡ max_header_lines
  pub interim_heads : MAX_INTERIM_HEADS ≡ max_interim_heads
  pub trailers : MAX_TRAILERS ≡ max_trailers
  pub trailer_bytes : MAX_TRAILER_BYTES ≡ max_trailer_bytes
  pub raw : MAX_RAW ≡ max_raw
  pub usual : USUAL_LIMIT ≡ usual_limit
  pub largest : LARGEST_LIMIT ≡ largest_limit
