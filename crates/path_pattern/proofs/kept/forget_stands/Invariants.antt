-- Those so far hold no literal.
use Rattle.std.proofs.Common.{◌≡◌, ◌<◌, ℕ, length, slice_index_or}
use Rattle.path_pattern.specs.declared.kept.Stand.{Stand}
use Rattle.path_pattern.proofs.kept.forget_stands.Given as goal

abbrev pub invariant-loop-index : goal.invariant-loop-index
invariant-loop-index l = (length l.stands ≡ length l.initial.stands) × ((k : ℕ) (d : Stand) → k < l.index → (slice_index_or l.stands k d).end ≡ 0)
