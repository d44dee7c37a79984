-- The user-agent lines so far are those of the lines so far.
use Rattle.std.proofs.Common.{◌≡◌, map, take}
use Rattle.robots_text.specs.Grouped.{grouped_seen}
use Rattle.robots_text.specs.Walk.{speaks}
use Rattle.robots_check.specs.AgentText.{head_seen, heads_in}
use Rattle.robots_check.proofs.agents.heads_in.Given as goal

abbrev pub invariant-loop-line : goal.invariant-loop-line
invariant-loop-line l = map head_seen l.heads.items ≡ heads_in (speaks l.whom) l.groups (map grouped_seen (take l.line-index l.said))
