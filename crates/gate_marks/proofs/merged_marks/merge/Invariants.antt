-- Each place from the first one up to this was passed once; the others are left.
use Rattle.std.proofs.Common.{◌≡◌, ◌+◌, ◌-◌, ◌≤◌, ℕ, nat_lt}
use Rattle.authority_cache.specs.Calls.{one_if}
use Rattle.gate_marks.specs.Places.{AllAscend, times_in_all}
use Rattle.gate_marks.proofs.merged_marks.merge.Given as goal

abbrev pub invariant-loop-place : goal.invariant-loop-place
invariant-loop-place l =
    (l.place ≤ l.count) × AllAscend l.left
    × ((p : ℕ) → times_in_all p l.fn.left + one_if (nat_lt p l.first) ≡ times_in_all p l.left + one_if (nat_lt p l.place))

abbrev pub decreases-loop-place : goal.decreases-loop-place
decreases-loop-place l = l.count - l.place
