-- A policy's groups for a token, by name.
-- Cited by `Heads`.
use Rattle.std.specs.Prelude.{ℕ, Bool, bytes_eq, Contains, List, MatchBool}
use Rattle.std.specs.List.{list_any}
use Rattle.std.specs.declared.cmp.Ordering.{Ordering}
use Rattle.std.specs.Ordering.{is_lt, nat_cmp, ordering_then}
use Rattle.std.specs.Cmp.Lexicographic.{slice_cmp}
use Rattle.robots_verdict.specs.declared.heads.Name.{Name}
use Rattle.robots_verdict.specs.Placed.{NamedGroup, Names}

-- a kept name, as seen
abbrev pub name_seen : Name → NamedGroup
name_seen name = record { name = name.text.items; group = name.group }

-- names in order: by octets, then by group
abbrev pub compare_names : NamedGroup → NamedGroup → Ordering
compare_names one other = ordering_then (slice_cmp nat_cmp one.name other.name) (nat_cmp one.group other.group)

-- one name is before the other
abbrev pub is_name_before : NamedGroup → NamedGroup → Bool
is_name_before one other = is_lt (compare_names one other)

-- some group has the name
abbrev pub has_name : List NamedGroup → List ℕ → Bool
has_name named word = list_any (λ one. bytes_eq one.name word) named

-- the group is the token's: it has that name, or is for everybody if none has
abbrev pub IsGroupFor : Names → List ℕ → ℕ → Type 0
IsGroupFor names word group =
    MatchBool (has_name names.named word) (Contains names.named (record { name = word; group = group }))
    (Contains names.everybody group)
