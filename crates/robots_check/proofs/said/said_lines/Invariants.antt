-- The lines so far precede those among the remaining ones.
use Rattle.std.proofs.Common.{◌≡◌, ◌++◌, map}
use Rattle.robots_text.specs.Grouped.{grouped_left, grouped_seen}
use Rattle.robots_check.specs.Said.{said_among}
use Rattle.robots_check.proofs.said.said_lines.Given as goal

abbrev pub invariant-loop-line : goal.invariant-loop-line
invariant-loop-line l = said_among (grouped_left l.initial.left) ≡ map grouped_seen l.lines.items ++ said_among (grouped_left l.left)
