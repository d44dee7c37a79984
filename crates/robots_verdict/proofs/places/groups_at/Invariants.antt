-- The groups of the places so far.
use Rattle.std.proofs.Common.{◌≡◌, take}
use Rattle.robots_verdict.specs.Search.{groups_at}
use Rattle.robots_verdict.proofs.places.groups_at.Given as goal

abbrev pub invariant-loop-place : goal.invariant-loop-place
invariant-loop-place l = l.groups.items ≡ groups_at l.rows.rows (take l.place-index l.places)
