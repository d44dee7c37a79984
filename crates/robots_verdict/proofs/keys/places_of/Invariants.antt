-- The places of the keys so far.
use Rattle.std.proofs.Common.{◌≡◌, map, take}
use Rattle.robots_verdict.proofs.keys.places_of.Given as goal

abbrev pub invariant-loop-key : goal.invariant-loop-key
invariant-loop-key l = l.places.items ≡ map (λ key. key.place) (take l.key-index l.keys)
