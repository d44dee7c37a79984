-- The places of rule lines by number.
-- Used by the contracts that find them.
use Rattle.std.specs.Prelude.{◌≡◌, ◌<◌, ℕ, List, [], length, map, slice_index_or}
use Rattle.std.specs.List.Sorted.{IsStrictlyIncreasing}
use Rattle.robots_text.specs.declared.record.RuleKind.TheVariants.{Allow}
use Rattle.robots_text.specs.Groups.{Ruled}

-- a placeholder for places past the end
abbrev pub no_rule : Ruled
no_rule = record { line = 0; kind = Allow; pattern = [] }

-- the rule line at a place
abbrev pub rule_at : List Ruled → ℕ → Ruled
rule_at rules place = slice_index_or rules place no_rule

-- the numbers of the lines rise
abbrev pub IsRising : List Ruled → Type 0
IsRising rules = IsStrictlyIncreasing (map (λ ruled. ruled.line) rules)

-- the rule line at the place has this number
abbrev pub IsRuleAt : List Ruled → ℕ → ℕ → Type 0
IsRuleAt rules line place = (place < length rules) × ((rule_at rules place).line ≡ line)
