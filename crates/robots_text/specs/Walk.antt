-- The walk over the grouped records that finds a token's rules, and its remaining part.
-- Cited by `RuleWalk` and `RulesFor`.
use Rattle.std.specs.Prelude.{ℕ, ◌==◌, ◌&&◌, Bool, false, List, [], ◌∷◌, Option, Some, None, if◌then◌else◌}
use Rattle.std.specs.List.{cons_option}
use Rattle.robots_text.specs.declared.groups.RuleLine.{RuleLine}
use Rattle.robots_text.specs.declared.groups.RuleWalk.{RuleWalk}
use Rattle.robots_text.specs.declared.groups.RulesFor.{RulesFor}
use Rattle.robots_text.specs.declared.groups.Whom.{Whom}
use Rattle.robots_text.specs.declared.groups.Whom.TheVariants as whoms
use Rattle.robots_text.specs.Grouped.{Grouped, grouped_left}
use Rattle.robots_text.specs.Groups.{Ruled, is_agent, names_everybody, names_token}
use Rattle.robots_text.specs.Records.{Record, agent, rule, other}

-- the record names those whose rules are sought
abbrev pub speaks : Whom → Record → Bool
speaks (whoms.Token word) kind = names_token word.now kind
speaks whoms.Everybody kind = names_everybody kind

-- the last group with a user-agent line that passes the test, after a record
abbrev pub speaking_group : (Record → Bool) → Option ℕ → ℕ → Record → Option ℕ
speaking_group test last group kind = if is_agent kind && test kind then Some group else last

-- it is this group
abbrev pub is_group : Option ℕ → ℕ → Bool
is_group None group = false
is_group (Some last) group = last == group

-- the rule line of a record in that group
abbrev pub ruled_in : Option ℕ → ℕ → ℕ → Record → Option Ruled
ruled_in last group line (agent who) = None
ruled_in last group line (rule kind value) =
    if is_group last group then Some (record { line = line; kind = kind; pattern = value }) else None
ruled_in last group line other = None

-- the rule lines in groups with such a line, among the remaining records
abbrev pub rules_from : (Record → Bool) → Option ℕ → List Grouped → List Ruled
rules_from test last [] = []
rules_from test last (first ∷ lines) =
    cons_option (ruled_in (speaking_group test last first.group first.kind) first.group first.line first.kind)
    (rules_from test (speaking_group test last first.group first.kind) lines)

-- the rule lines that the walk finds among the records behind it
abbrev pub rules_behind : RuleWalk → List Grouped → List Ruled
rules_behind walk lines = rules_from (speaks walk.whom) walk.group lines

-- the remaining rule lines
abbrev pub rules_left : RulesFor → List Ruled
rules_left rules = rules_behind rules.walk (grouped_left rules.records)

-- a rule line, as seen
abbrev pub rule_seen : RuleLine → Ruled
rule_seen item = record { line = item.line; kind = item.kind; pattern = item.pattern.now }
