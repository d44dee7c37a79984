-- The keys of the places so far.
use Rattle.std.proofs.Common.{◌≡◌, All, map, take}
use Rattle.robots_verdict.specs.Keys.{IsKeyOf}
use Rattle.robots_verdict.proofs.keys.keys_of.Given as goal

abbrev pub invariant-loop-place : goal.invariant-loop-place
invariant-loop-place l = (map (λ key. key.place) l.keys.items ≡ take l.place-index l.places) × All (IsKeyOf l.rows.rows) l.keys.items
