-- The use of a leave to fetch.
-- Used by `Fetcher`.
use Rattle.std.specs.Prelude.{ℕ, List}
use Rattle.fetchers.specs.declared.fetcher.PageLeave.{PageLeave}
use Rattle.fetchers.specs.declared.fetcher.RobotsLeave.{RobotsLeave}

-- the page
abbrev pub page_of : PageLeave → List ℕ
page_of leave = leave.url.now

-- its token
abbrev pub token_of_leave : PageLeave → List ℕ
token_of_leave leave = leave.token.now

-- the robots.txt
abbrev pub robots_page_of : RobotsLeave → List ℕ
robots_page_of leave = leave.url.now
