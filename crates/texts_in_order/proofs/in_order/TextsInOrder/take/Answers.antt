-- A text is passed on, or waits.
-- Used by `TextsInOrder::take`.
use Rattle.std.proofs.Common.{◌≡◌, ◌+◌, ◌∙◌, ap, subst, sym, refl, Some}
use Rattle.std.specs.List.{slice_get}
use Rattle.texts_in_order.specs.Order.{AreInOrder, OrderView, TakesText}
use Rattle.texts_in_order.proofs.Passing.{cut_more, one_more, order_prefix, taken_through}
use Rattle.texts_in_order.proofs.in_order.TextsInOrder.take.Given as given
use Rattle.texts_in_order.proofs.in_order.TextsInOrder.take.Goals as goal

pub returns-then-number-self-clause-prefix : goal.returns-then-number-self-clause-prefix
returns-then-number-self-clause-prefix g c texts start is p =
    order_prefix texts start (g.W.Sink.written c.args.sink.now) c.args.self.now p

pub returns-in_err-push-clause-prefix : goal.returns-in_err-push-clause-prefix
returns-in_err-push-clause-prefix g c texts start is p =
    let written = g.W.Sink.written c.args.sink.now in
    let old : OrderView = record { next = c.self-2.inside.next; kept = c.self-2.inside.kept.items; pending = c.self-2.inside.output } in
    let before : AreInOrder texts start written old = subst (λ (o : OrderView). AreInOrder texts start written o) (sym c.self-2.view_is) p in
    let same = c.if-number-self.false ∙ ap (λ (o : OrderView). o.next) (c.self.view_is ∙ sym c.self-2.view_is) in
    let next = subst (λ n. slice_get texts n ≡ Some (g.T.Text.octets c.args.text.now)) same is in
    cut_more texts start written (g.W.Sink.written c.push.new.sink) old (g.T.Text.octets c.args.text.now) before next (c.in_err-push.ensures {u = tt}).err

taken : (g : given.Over) (c : goal.After-pass g)
    → TakesText c.args.number (g.T.Text.octets c.args.text.now) (g.W.Sink.written c.args.sink.now) (g.W.Sink.written c.push.new.sink) c.args.self.now
    (record { next = c.self-2.inside.next + 1; kept = c.self-2.inside.kept.items; pending = c.push.new.output })
taken g c texts start is p =
    let written = g.W.Sink.written c.args.sink.now in
    let old : OrderView = record { next = c.self-2.inside.next; kept = c.self-2.inside.kept.items; pending = c.self-2.inside.output } in
    let new : OrderView = record { next = c.self-2.inside.next + 1; kept = c.self-2.inside.kept.items; pending = c.push.new.output } in
    let before : AreInOrder texts start written old = subst (λ (o : OrderView). AreInOrder texts start written o) (sym c.self-2.view_is) p in
    let same = c.if-number-self.false ∙ ap (λ (o : OrderView). o.next) (c.self.view_is ∙ sym c.self-2.view_is) in
    let next = subst (λ n. slice_get texts n ≡ Some (g.T.Text.octets c.args.text.now)) same is in
    one_more texts start written (g.W.Sink.written c.push.new.sink) old new (g.T.Text.octets c.args.text.now) before next
    (c.in_ok-push.ensures {u = tt}).ok refl refl (λ number kept waits. waits)

pub returns-clause-ok : goal.returns-clause-ok
returns-clause-ok g c =
    taken_through c.pass.result c.args.number (g.T.Text.octets c.args.text.now) (g.W.Sink.written c.args.sink.now) (g.W.Sink.written c.push.new.sink) (g.W.Sink.written c.pass.new.sink) c.args.self.now
    (record { next = c.self-2.inside.next + 1; kept = c.self-2.inside.kept.items; pending = c.push.new.output }) c.pass.new.self (taken g c) c.pass.ensures.ok

pub returns-clause-prefix : goal.returns-clause-prefix
returns-clause-prefix g c texts start is p = c.pass.ensures.prefix texts start (taken g c texts start is p)
