-- The best of the others so far is known.
use Rattle.std.proofs.Common.{map, take}
use Rattle.robots_check.specs.Rows.{IsSecond, row_seen}
use Rattle.robots_check.proofs.rows.second.Given as goal

abbrev pub invariant-loop-row : goal.invariant-loop-row
invariant-loop-row l = IsSecond (map row_seen (take l.row-index l.rows)) l.line l.best
