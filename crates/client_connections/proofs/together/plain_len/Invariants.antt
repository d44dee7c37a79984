-- No line so far, after the first, may make the gate fetch; and whether the last octet ends a line.
use Rattle.std.specs.Prelude.{◌≡◌, ◌<◌, ℕ, suc, true, slice_index_or}
use Rattle.client_connections.specs.Ahead.{HasNoFetchBefore}
use Rattle.client_connections.proofs.together.plain_len.Given as goal

abbrev pub invariant-loop-at : goal.invariant-loop-at
invariant-loop-at l =
    HasNoFetchBefore l.at l.octets
    × ((k : ℕ) → l.at ≡ suc k → slice_index_or l.octets k 0 ≡ 10 → l.has_ended ≡ true)
    × (l.has_ended ≡ true → 0 < l.at)
