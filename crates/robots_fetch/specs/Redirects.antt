-- Where a redirect leads: its Location, relative to the URL before it, or why it isn't followed.
-- RFC 9309, section 2.3.1.2; RFC 9110, section 10.2.2.
use Rattle.std.specs.Prelude.{◌≡◌, ℕ, List, Option, None, Some, Result, Ok, Err, nat_lt, if◌then◌else◌}
use Rattle.path_normal.specs.declared.fault.UrlFault.{UrlFault}
use Rattle.path_normal.specs.declared.fault.UrlFault.TheVariants as faults
use Rattle.path_normal.specs.declared.schemes.Schemes.{Schemes}
use Rattle.path_normal.specs.Capacity.{Enough}
use Rattle.path_normal.specs.PageUrl.{page_url_on_among}
use Rattle.robots_fetch.specs.declared.redirect.Nowhere.{Nowhere}
use Rattle.robots_fetch.specs.declared.redirect.Nowhere.TheVariants as nowhere
use Rattle.robots_fetch.specs.declared.redirect.Stop.{Stop}
use Rattle.robots_fetch.specs.declared.redirect.Stop.TheVariants.{TooManyRedirects, BadRedirect, Scheme}

-- the most redirects followed in a row
abbrev pub most_redirects : ℕ
most_redirects = 5

-- a Location's page, or its first fault, why the redirect isn't followed
abbrev pub followed_page : Result (List ℕ) UrlFault → Result (List ℕ) Stop
followed_page (Ok page) = Ok page
followed_page (Err faults.NotHttp) = Err Scheme
followed_page (Err fault) = Err BadRedirect

-- where a redirect from a URL leads, in these schemes
abbrev pub location_target : Schemes → List ℕ → Option (List ℕ) → Result (List ℕ) Stop
location_target schemes url None = Err BadRedirect
location_target schemes url (Some location) = followed_page (page_url_on_among schemes url location Enough)

-- where a redirect from a URL leads, after so many, in these schemes
abbrev pub redirect_target : Schemes → ℕ → List ℕ → Option (List ℕ) → Result (List ℕ) Stop
redirect_target schemes followed url location =
    if nat_lt followed most_redirects then location_target schemes url location else Err TooManyRedirects

-- the expected result, unless memory ran out or the crate `url` overflowed
abbrev pub IsTarget : Result (List ℕ) Nowhere → Result (List ℕ) Stop → Type 0
IsTarget (Ok url) expected = expected ≡ Ok url
IsTarget (Err (nowhere.Stop stop)) expected = expected ≡ Err stop
IsTarget (Err nowhere.NoMemory) expected = Unit {0}
