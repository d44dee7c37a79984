-- What was read counts as its digits do, up to the longest pause.
use Rattle.std.proofs.Common.{◌≡◌, ◌≤◌, length, min}
use Rattle.std.specs.Char.{is_ascii_digit}
use Rattle.std.specs.List.{list_all}
use Rattle.std.specs.Str.Parse.{digits_value, digits_value_after}
use Rattle.site_door.specs.Limits.{most_pause}
use Rattle.site_door.proofs.asked_pause.seconds_in.Given as goal

abbrev pub invariant-loop-digit : goal.invariant-loop-digit
invariant-loop-digit l =
    (list_all is_ascii_digit l.digits ≡ list_all is_ascii_digit l.rest)
    × ((min (digits_value_after 10 l.seconds l.rest) most_pause ≡ min (digits_value 10 l.digits) most_pause)
    × (l.seconds ≤ most_pause))

abbrev pub decreases-loop-digit : goal.decreases-loop-digit
decreases-loop-digit l = length l.rest
