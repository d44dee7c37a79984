-- The seconds of a Retry-After field.
-- RFC 9110, section 10.2.3.
use Rattle.std.specs.Prelude.{◌==◌, ◌&&◌, ◌||◌, ℕ, Bool, List, Option, None, Some, if◌then◌else◌, length, min, nat_lt}
use Rattle.std.specs.Char.{is_ascii_digit}
use Rattle.std.specs.List.{list_all}
use Rattle.std.specs.Str.Parse.{digits_value}
use Rattle.site_door.specs.Limits.{most_pause}

-- 1*DIGIT
abbrev pub is_digits : List ℕ → Bool
is_digits octets = nat_lt 0 (length octets) && list_all is_ascii_digit octets

-- the statuses at which the field sets a pause: 429 and 503
abbrev pub sets_pause : ℕ → Bool
sets_pause status = (status == 429) || (status == 503)

-- delay-seconds = 1*DIGIT, up to the longest pause; a date sets none
abbrev pub pause_of : ℕ → List ℕ → Option ℕ
pause_of status field =
    if sets_pause status && is_digits field then Some (min (digits_value 10 field) most_pause) else None
