-- The places that are still to be looked at, the last first.
use Rattle.std.proofs.Common.{◌≡◌, ◌≤◌, length}
use Rattle.http_client.proofs.kept_connections.take_from.Given as goal

abbrev pub invariant-loop-place : goal.invariant-loop-place
invariant-loop-place l = (l.place ≤ length l.kept.items) × (l.kept ≡ l.fn.kept)

abbrev pub decreases-loop-place : goal.decreases-loop-place
decreases-loop-place l = l.place
