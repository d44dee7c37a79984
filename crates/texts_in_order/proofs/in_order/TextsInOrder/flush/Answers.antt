-- A flush leaves the texts in order, and a prefix of them in the sink.
-- Used by `TextsInOrder::flush`.
use Rattle.std.proofs.Common.{subst, refl}
use Rattle.std.specs.Prelude.{OnOk}
use Rattle.texts_in_order.specs.Order.{OrderView, StaysInOrder, WritesPrefix}
use Rattle.texts_in_order.proofs.Passing.{flush_prefix, flushed}
use Rattle.texts_in_order.proofs.in_order.TextsInOrder.flush.Goals as goal

pub returns-clause-ok : goal.returns-clause-ok
returns-clause-ok g c =
    let written = g.W.Sink.written c.args.sink.now in
    let written' = g.W.Sink.written c.flush.new.sink in
    let old : OrderView = record { next = c.self.inside.next; kept = c.self.inside.kept.items; pending = c.self.inside.output } in
    let new : OrderView = record { next = c.self.inside.next; kept = c.self.inside.kept.items; pending = c.flush.new.self } in
    subst (λ (o : OrderView). OnOk c.flush.result (StaysInOrder written written' o new)) c.self.view_is
    (flushed c.flush.result written written' old new refl refl c.flush.ensures.empty c.flush.ensures.ok)

pub returns-clause-prefix : goal.returns-clause-prefix
returns-clause-prefix g c =
    let written = g.W.Sink.written c.args.sink.now in
    let written' = g.W.Sink.written c.flush.new.sink in
    let old : OrderView = record { next = c.self.inside.next; kept = c.self.inside.kept.items; pending = c.self.inside.output } in
    subst (λ (o : OrderView). WritesPrefix written written' o) c.self.view_is
    (flush_prefix c.flush.result written written' old c.flush.ensures.ok c.flush.ensures.err)
