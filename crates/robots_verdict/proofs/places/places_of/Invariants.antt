-- The places so far.
use Rattle.std.proofs.Common.{true, false}
use Rattle.robots_verdict.specs.Search.{ArePlaces}
use Rattle.robots_verdict.proofs.places.places_of.Given as goal

abbrev pub invariant-loop-place : goal.invariant-loop-place
invariant-loop-place l = ArePlaces l.rows.rows true l.plain.items l.place × ArePlaces l.rows.rows false l.others.items l.place
