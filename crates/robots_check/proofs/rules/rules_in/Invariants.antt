-- The rule lines so far, and those that the walk will find, are all that it finds.
use Rattle.std.proofs.Common.{None, ◌≡◌, ◌++◌, drop, map}
use Rattle.std.specs.List.{All}
use Rattle.robots_text.specs.Grouped.{grouped_seen}
use Rattle.robots_text.specs.Walk.{rules_behind, rules_from, speaks}
use Rattle.robots_check.specs.Forms.{IsFormed, formed_rule}
use Rattle.robots_check.proofs.rules.rules_in.Given as goal

abbrev pub invariant-loop-line : goal.invariant-loop-line
invariant-loop-line l = (map formed_rule l.rules.items ++ rules_behind l.walk (map grouped_seen (drop l.line-index l.said)) ≡ rules_from (speaks l.whom) None (map grouped_seen l.said)) × All IsFormed l.rules.items
