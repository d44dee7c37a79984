-- Each place is taken apart or waits for it, and there is room for what is left.
use Rattle.std.proofs.Common.{◌+◌, ◌≤◌, ◌≡◌}
use Rattle.std.specs.Prelude.{vec_capacity, vec_len}
use Rattle.turns.proofs.place.Places.into_talks.Given as goal

abbrev pub invariant-loop-place : goal.invariant-loop-place
invariant-loop-place g l =
    (vec_len l.places + vec_len l.talks ≡ vec_len l.fn.self.places) × (vec_len l.fn.self.places ≤ vec_capacity l.talks)

abbrev pub decreases-loop-place : goal.decreases-loop-place
decreases-loop-place g l = vec_len l.places
