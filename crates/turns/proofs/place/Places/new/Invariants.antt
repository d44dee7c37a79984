-- Each conversation has its place or waits for it, and the room of those with a place stays.
use Rattle.std.proofs.Common.{◌+◌, ◌≤◌, ◌≡◌}
use Rattle.std.specs.Prelude.{vec_capacity, vec_len}
use Rattle.turns.proofs.place.Places.new.Given as goal

abbrev pub invariant-loop-talk : goal.invariant-loop-talk
invariant-loop-talk g l =
    (vec_len l.talks + vec_len l.places ≡ vec_len l.fn.talks) × (vec_len l.fn.talks ≤ vec_capacity l.places) × (vec_len l.fn.talks ≤ vec_capacity l.talks)

abbrev pub decreases-loop-talk : goal.decreases-loop-talk
decreases-loop-talk g l = vec_len l.talks
