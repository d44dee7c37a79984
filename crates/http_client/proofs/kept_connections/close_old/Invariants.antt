-- Each step takes one out.
use Rattle.std.proofs.Common.{◌≤◌, length}
use Rattle.http_client.proofs.kept_connections.close_old.Given as goal

abbrev pub invariant-loop-first : goal.invariant-loop-first
invariant-loop-first l = length l.kept.items ≤ length l.fn.kept.items

abbrev pub decreases-loop-first : goal.decreases-loop-first
decreases-loop-first l = length l.kept.items
