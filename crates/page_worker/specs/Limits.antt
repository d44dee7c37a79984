-- The limit of hops.
-- RFC 9309, section 2.3.1.2.
use Rattle.std.specs.Prelude.{ℕ, ◌+◌}
use Rattle.robots_fetch.specs.Redirects.{most_redirects}

-- the most hops of a job: the followed redirects, their page, and why that is not followed if it redirects too
abbrev pub max_hops : ℕ
max_hops = most_redirects + 2
