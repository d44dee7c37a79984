-- Each text that waits is passed on, and then the last one.
-- Used by `TextsInOrder::finish_known`.
use Rattle.std.proofs.Common.{◌<◌, ◌≤◌, ◌++◌, length, subst, arith}
use Rattle.counted_io.specs.Output.{Passes}
use Rattle.texts_in_order.specs.Order.{OrderView}
use Rattle.texts_in_order.proofs.Knowing.{known_at_first, known_flushed, known_further}
use Rattle.texts_in_order.proofs.in_order.TextsInOrder.finish_known.Goals as goal

pub known-init : goal.known-init
known-init g c = known_at_first (g.W.Sink.written c.args.sink.now) c.args.self.now

pub known-preserved : goal.known-preserved
known-preserved g c =
    known_further (g.W.Sink.written c.args.sink.now) (g.W.Sink.written c.known.sink) (g.W.Sink.written c.go_past.new.sink) c.args.self.now c.known.self c.go_past.new.self
    (subst (λ (o : OrderView). o.next < length o.kept) c.self.view_is (omega (arith, c.known-test.true, c.len.ensures)))
    c.known.invariant c.in_ok-go_past.ensures

pub returns : goal.returns
returns g c =
    let written = g.W.Sink.written c.known.sink in
    let mid : OrderView = record { next = c.self-2.inside.next; kept = c.self-2.inside.kept.items; pending = c.self-2.inside.output } in
    let last = g.T.Text.octets c.args.last.now in
    let ended = subst (λ (o : OrderView). length o.kept ≤ o.next) c.self.view_is (omega (arith, c.known-test.false, c.len.ensures)) in
    let passes = subst (λ (o : OrderView). Passes written (g.W.Sink.written c.push.new.sink) (o.pending ++ last) c.push.new.output) c.self-2.view_is
    (c.in_ok-push.ensures {u = tt}).ok in
    known_flushed c.flush.result (g.W.Sink.written c.args.sink.now) written (g.W.Sink.written c.push.new.sink) (g.W.Sink.written c.flush.new.sink)
    c.args.self.now c.known.self last c.push.new.output ended c.known.invariant passes c.flush.ensures.ok
