-- How the lines that match a path rank.
-- RFC 9309, section 2.2.2; of equal lines the first is named.
use Rattle.std.specs.Prelude.{ℕ, Bool, length}
use Rattle.std.specs.declared.cmp.Ordering.{Ordering}
use Rattle.std.specs.Ordering.{is_lt, nat_cmp, ordering_then}
use Rattle.path_normal.specs.Normal.{normal_pattern}
use Rattle.robots_text.specs.declared.record.RuleKind.{RuleKind}
use Rattle.robots_text.specs.declared.record.RuleKind.TheVariants.{Allow, Disallow}
use Rattle.robots_text.specs.Groups.{Ruled}
use Rattle.robots_verdict.specs.declared.weight.Weight.{Weight}

-- allow precedes disallow
abbrev pub kind_place : RuleKind → ℕ
kind_place Allow = 0
kind_place Disallow = 1

-- lines in order, strongest first: more octets, then allow before disallow, then the smaller line number
abbrev pub falling : Weight → Weight → Ordering
falling one other =
    ordering_then (nat_cmp other.octets one.octets)
    (ordering_then (nat_cmp (kind_place one.kind) (kind_place other.kind)) (nat_cmp one.line other.line))

-- one is stronger than the other
abbrev pub is_above : Weight → Weight → Bool
is_above one other = is_lt (falling one other)

-- a rule line's weight: its pattern's octets in normal form, its kind and its number
abbrev pub weight_of : Ruled → Weight
weight_of ruled = record { octets = length (normal_pattern ruled.pattern); kind = ruled.kind; line = ruled.line }
