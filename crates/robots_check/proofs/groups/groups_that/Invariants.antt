-- The groups so far are those of the lines so far.
use Rattle.std.proofs.Common.{◌≡◌, map, take}
use Rattle.robots_text.specs.Grouped.{grouped_seen}
use Rattle.robots_text.specs.Walk.{speaks}
use Rattle.robots_check.specs.AgentText.{groups_that}
use Rattle.robots_check.proofs.groups.groups_that.Given as goal

abbrev pub invariant-loop-line : goal.invariant-loop-line
invariant-loop-line l = l.groups.items ≡ groups_that (speaks l.whom) (map grouped_seen (take l.line-index l.said))
