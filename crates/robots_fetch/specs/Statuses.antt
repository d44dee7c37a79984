-- What a status means for a robots.txt.
-- RFC 9309, sections 2.3.1.1 to 2.3.1.4; RFC 9110, section 15.4, for the redirects.
use Rattle.std.specs.Prelude.{ℕ, Bool, ◌==◌, ◌||◌, ◌&&◌, nat_le, if◌then◌else◌}
use Rattle.robots_fetch.specs.declared.status.StatusClass.{StatusClass}
use Rattle.robots_fetch.specs.declared.status.StatusClass.TheVariants.{Successful, Redirect, Unavailable, Unreachable, Other}

-- the status redirects to the Location's URL
abbrev pub is_redirect : ℕ → Bool
is_redirect code = code == 301 || code == 302 || code == 303 || code == 307 || code == 308

-- the status is within these bounds
abbrev pub is_from : ℕ → ℕ → ℕ → Bool
is_from first last code = nat_le first code && nat_le code last

-- the class of a status
abbrev pub class_of : ℕ → StatusClass
class_of code =
    if is_redirect code then Redirect
    else (if is_from 200 299 code then Successful
    else (if is_from 400 499 code then Unavailable
    else (if is_from 500 599 code then Unreachable
    else Other)))
