-- The limits of a page, of a robots.txt, and of all that are kept, and how long a network fault closes a site.
-- RFC 9309, sections 2.3.1.4, 2.4 and 2.5.
use Rattle.std.specs.Prelude.{ℕ, ◌+◌}
use Rattle.robots_text.specs.Lines.{text_limit}
use Rattle.authority_cache.specs.Lives.{greatest_life}

-- the octets taken of a page's body where no other limit is set
abbrev pub page_limit : ℕ
page_limit = 1_048_576

-- the octets kept of a robots.txt, and one that shows that there are more
abbrev pub robots_limit : ℕ
robots_limit = text_limit + 1

-- the most octets of robots texts that are kept where no bound is set
abbrev pub no_bound : ℕ
no_bound = 18446744073709551615

-- for how many seconds a network fault keeps a site closed where no other time is set: an answer of that age is past
-- its life
abbrev pub full_closure : ℕ
full_closure = greatest_life + 1
