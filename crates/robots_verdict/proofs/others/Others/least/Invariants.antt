-- No row so far matches.
use Rattle.std.proofs.Common.{◌≡◌}
use Rattle.robots_verdict.specs.Search.{IsPassed}
use Rattle.robots_verdict.proofs.others.Others.least.Given as goal

abbrev pub invariant-loop-index : goal.invariant-loop-index
invariant-loop-index l = (l.path ≡ l.fn.path) × IsPassed l.rows.rows l.places l.group l.fn.path l.start l.index
