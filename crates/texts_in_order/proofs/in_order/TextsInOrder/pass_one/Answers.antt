-- The next text is passed on.
-- Used by `TextsInOrder::pass_one`.
use Rattle.std.proofs.Common.{◌≡◌, ◌<◌, ◌+◌, ◌++◌, ◌∙◌, List, ℕ, set, subst, sym, refl, length, length-set, Some}
use Rattle.counted_io.specs.Device.{AppendsPrefix}
use Rattle.counted_io.specs.Output.{Passes}
use Rattle.texts_in_order.specs.Order.{AreInOrder, OrderView, waiting_at}
use Rattle.texts_in_order.proofs.Passing.{cut_more, emptied, one_more, order_prefix, waits_there}
use Rattle.texts_in_order.proofs.in_order.TextsInOrder.pass_one.Goals as goal

pub returns-in_default-clause-prefix : goal.returns-in_default-clause-prefix
returns-in_default-clause-prefix g c texts start p = order_prefix texts start (g.W.Sink.written c.args.sink.now) c.args.self.now p

pub returns-in_err-push-clause-prefix : goal.returns-in_err-push-clause-prefix
returns-in_err-push-clause-prefix g c texts start p =
    let written = g.W.Sink.written c.args.sink.now in
    let written' = g.W.Sink.written c.push.new.sink in
    let old : OrderView = record { next = c.self.inside.next; kept = c.self.inside.kept.items; pending = c.self.inside.output } in
    let before : AreInOrder texts start written old = subst (λ (o : OrderView). AreInOrder texts start written o) (sym c.self.view_is) p in
    let there : old.next < length old.kept = subst (λ (o : OrderView). o.next < length o.kept) (sym c.self.view_is) c.requires in
    let waits : waiting_at old.kept old.next ≡ Some c.in-Some.text =
    waits_there old.kept old.next c.index_mut.result.now there c.index_mut.ensures.value ∙ sym c.take.ensures.value ∙ c.in-Some.is in
    let is = before.kept old.next c.in-Some.text (subst (λ n. old.next < n) before.count there) waits in
    let cut = subst (λ (octets : List ℕ). AppendsPrefix written written' (old.pending ++ octets)) c.as_slice.ensures.value c.in_err-push.ensures.err in
    cut_more texts start written written' old c.in-Some.text.items before is cut

pub returns-clause-ok : goal.returns-clause-ok
returns-clause-ok g c texts start p =
    let written = g.W.Sink.written c.args.sink.now in
    let written' = g.W.Sink.written c.push.new.sink in
    let old : OrderView = record { next = c.self.inside.next; kept = c.self.inside.kept.items; pending = c.self.inside.output } in
    let new : OrderView = record { next = c.self.inside.next + 1; kept = set c.self.inside.kept.items c.self.inside.next c.take.new.self; pending = c.push.new.self } in
    let before : AreInOrder texts start written old = subst (λ (o : OrderView). AreInOrder texts start written o) (sym c.self.view_is) p in
    let there : old.next < length old.kept = subst (λ (o : OrderView). o.next < length o.kept) (sym c.self.view_is) c.requires in
    let waits : waiting_at old.kept old.next ≡ Some c.in-Some.text =
    waits_there old.kept old.next c.index_mut.result.now there c.index_mut.ensures.value ∙ sym c.take.ensures.value ∙ c.in-Some.is in
    let is = before.kept old.next c.in-Some.text (subst (λ n. old.next < n) before.count there) waits in
    let passes = subst (λ (octets : List ℕ). Passes written written' (old.pending ++ octets) c.push.new.self) c.as_slice.ensures.value c.in_ok-push.ensures.ok in
    one_more texts start written written' old new c.in-Some.text.items before is passes refl (length-set old.kept old.next c.take.new.self)
    (emptied old.kept old.next c.take.new.self there c.take.ensures.after)

pub returns-clause-prefix : goal.returns-clause-prefix
returns-clause-prefix g c texts start p =
    let new : OrderView = record { next = c.self.inside.next + 1; kept = set c.self.inside.kept.items c.self.inside.next c.take.new.self; pending = c.push.new.self } in
    order_prefix texts start (g.W.Sink.written c.push.new.sink) new (returns-clause-ok g c texts start p)
