-- The groups of the names so far.
use Rattle.std.proofs.Common.{◌≡◌, map, take}
use Rattle.robots_verdict.specs.declared.heads.Name.{Name}
use Rattle.robots_verdict.proofs.heads.groups_of.Given as goal

abbrev pub invariant-loop-name : goal.invariant-loop-name
invariant-loop-name l = l.groups.items ≡ map (λ (name : Name). name.group) (take l.name-index l.names)
