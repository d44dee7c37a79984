-- The texts that are known were passed on so far, and the others count as empty.
-- Used by `TextsInOrder::finish_known`.
use Rattle.std.proofs.Common.{◌-◌, length}
use Rattle.texts_in_order.proofs.Knowing.{KnownSoFar}
use Rattle.texts_in_order.proofs.in_order.TextsInOrder.finish_known.Given as goal

abbrev pub decreases-known : goal.decreases-known
decreases-known g l = length l.self.kept - l.self.next

abbrev pub invariant-known : goal.invariant-known
invariant-known g l = KnownSoFar (g.W.Sink.written l.fn.sink) (g.W.Sink.written l.sink) l.fn.self l.self
