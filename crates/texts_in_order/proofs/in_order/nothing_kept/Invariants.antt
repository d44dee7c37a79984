-- Nothing is kept so far.
-- Used by `nothing_kept`.
use Rattle.std.proofs.Common.{◌≡◌, None, replicate}
use Rattle.texts_in_order.proofs.in_order.nothing_kept.Given as goal

abbrev pub invariant-loop : goal.invariant-loop
invariant-loop l = l.kept.items ≡ replicate l.counter None
