use Rattle.std.proofs.Common.{◌≡◌, length}
use Rattle.robots_text.specs.Grouped.{grouped_left}
use Rattle.robots_text.specs.Walk.{rules_left}
use Rattle.robots_text.proofs.groups.RulesForIterator.next.Given as goal

-- what is left stays until a rule comes
abbrev pub invariant-loop-record : goal.invariant-loop-record
invariant-loop-record l = rules_left l.self ≡ rules_left l.initial.self

abbrev pub decreases-loop-record : goal.decreases-loop-record
decreases-loop-record l = length (grouped_left l.self.records)
