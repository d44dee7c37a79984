-- The least of the groups so far was found; the last group is known.
use Rattle.std.proofs.Common.{◌≡◌, take}
use Rattle.std.specs.Prelude.{Contains, IfSome}
use Rattle.robots_verdict.specs.Index.{FindsLeast, IsHit}
use Rattle.robots_verdict.proofs.ranked_rows.RankedRows.first.Given as goal

abbrev pub invariant-loop-group : goal.invariant-loop-group
invariant-loop-group l = record {
  stays : l.path ≡ l.fn.path;
  least : FindsLeast (IsHit l.rows.rows (take l.group-index l.groups) l.fn.path) l.found;
  tried : IfSome l.last (Contains (take l.group-index l.groups));
}
