-- The lines of a robots text that say something, and what a check finds among them.
-- Used by the contracts of a check, which reads the text once.
use Rattle.std.specs.Prelude.{◌==◌, ℕ, Bool, List, filter, if◌then◌else◌}
use Rattle.std.specs.List.{list_any}
use Rattle.robots_text.specs.Grouped.{Grouped}
use Rattle.robots_text.specs.Groups.{names_everybody, names_token}
use Rattle.robots_text.specs.Records.{Record}
use Rattle.robots_check.specs.Notes.{is_said}

-- the user-agent lines and rule lines among these lines, in order
abbrev pub said_among : List Grouped → List Grouped
said_among lines = filter (λ line. is_said line.kind) lines

-- the record names the token if one of these lines does, else `*`
abbrev pub speaks_among : List Grouped → List ℕ → Record → Bool
speaks_among lines word kind =
    if list_any (λ line. names_token word line.kind) lines then names_token word kind else names_everybody kind

-- the group is one of these
abbrev pub has_group : List ℕ → ℕ → Bool
has_group groups sought = list_any (λ group. group == sought) groups
