-- The joint outcome of all answers.
-- It is the exit status of `crawlgate check`.
use Rattle.std.specs.Prelude.{Bool, true, false, List, [], ◌∷◌, if◌then◌else◌}
use Rattle.std.specs.List.{list_any}
use Rattle.robots_check.specs.Answers.{Answer, allowed_by, allowed_unruled, allowed_robots, denied_by, unread}
use Rattle.robots_check.specs.Told.{Told}
use Rattle.robots_check.specs.declared.check_outcome.CheckOutcome.{CheckOutcome}
use Rattle.robots_check.specs.declared.check_outcome.CheckOutcome.TheVariants.{NoUrls, Allowed, Denied, Unread}

-- the URL is denied
abbrev pub is_denied : Answer → Bool
is_denied (allowed_by ruled) = false
is_denied allowed_unruled = false
is_denied allowed_robots = false
is_denied (denied_by ruled) = true
is_denied (unread fault) = false

-- the URL could not be read
abbrev pub is_unread : Answer → Bool
is_unread (allowed_by ruled) = false
is_unread allowed_unruled = false
is_unread allowed_robots = false
is_unread (denied_by ruled) = false
is_unread (unread fault) = true

-- of some answers, an unread one outranks all, and a denied one the allowed ones
abbrev pub outcome_of_some : List Told → CheckOutcome
outcome_of_some answers =
    if list_any (λ told. is_unread told.answer) answers then Unread else if list_any
    (λ told. is_denied told.answer) answers then Denied else Allowed

-- the outcome of the answers, if any
abbrev pub outcome_of : List Told → CheckOutcome
outcome_of [] = NoUrls
outcome_of (told ∷ later) = outcome_of_some (told ∷ later)

-- the outcome of one answer
abbrev pub outcome_of_one : Answer → CheckOutcome
outcome_of_one (allowed_by ruled) = Allowed
outcome_of_one allowed_unruled = Allowed
outcome_of_one allowed_robots = Allowed
outcome_of_one (denied_by ruled) = Denied
outcome_of_one (unread fault) = Unread

-- the worse of two outcomes
abbrev pub worse : CheckOutcome → CheckOutcome → CheckOutcome
worse NoUrls other = other
worse Allowed NoUrls = Allowed
worse Allowed Allowed = Allowed
worse Allowed Denied = Denied
worse Allowed Unread = Unread
worse Denied NoUrls = Denied
worse Denied Allowed = Denied
worse Denied Denied = Denied
worse Denied Unread = Unread
worse Unread other = Unread
