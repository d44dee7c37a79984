-- The octets that have a meaning in a robots text, by name.
-- RFC 9309, section 2.2.
use Rattle.std.specs.Prelude.{ℕ}

-- LF
abbrev pub line_feed : ℕ
line_feed = 10

-- CR
abbrev pub carriage_return : ℕ
carriage_return = 13

-- SP
abbrev pub space : ℕ
space = 32

-- HTAB
abbrev pub tab : ℕ
tab = 9

-- `*`
abbrev pub star : ℕ
star = 42

-- `:`
abbrev pub colon : ℕ
colon = 58

-- `#`
abbrev pub number_sign : ℕ
number_sign = 35

-- `-`
abbrev pub hyphen : ℕ
hyphen = 45

-- `_`
abbrev pub underscore : ℕ
underscore = 95
