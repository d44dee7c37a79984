-- Texts that were passed on are in order.
-- Used by `TextsInOrder::pass`.
use Rattle.std.proofs.Common.{◌≡◌, ◌-◌, ◌≤◌, length}
use Rattle.texts_in_order.specs.Order.{StaysInOrder}
use Rattle.texts_in_order.proofs.in_order.TextsInOrder.pass.Given as goal

abbrev pub decreases-passes : goal.decreases-passes
decreases-passes g l = length l.self.kept - l.self.next

abbrev pub invariant-passes : goal.invariant-passes
invariant-passes g l = record {
  order : StaysInOrder (g.W.Sink.written l.fn.sink) (g.W.Sink.written l.sink) l.fn.self l.self;
  further : l.fn.self.next ≤ l.self.next;
  failures : g.W.Sink.failures l.sink ≡ g.W.Sink.failures l.fn.sink;
}
