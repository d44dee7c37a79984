-- The texts so far are in order.
-- Used by `TextsInOrder::finish`.
use Rattle.std.proofs.Common.{◌≡◌, ◌-◌, length}
use Rattle.texts_in_order.specs.Order.{StaysWith}
use Rattle.texts_in_order.proofs.in_order.TextsInOrder.finish.Given as goal

abbrev pub decreases-rest : goal.decreases-rest
decreases-rest g l = l.count - l.self.next

abbrev pub invariant-rest : goal.invariant-rest
invariant-rest g l = record {
  order : StaysWith (g.A.Texts.texts l.all) (g.W.Sink.written l.fn.sink) (g.W.Sink.written l.sink) l.fn.self l.self;
  same : length l.self.kept ≡ length l.fn.self.kept;
}
