-- The next text is passed on, whether it waits or was not taken.
-- Used by `TextsInOrder::pass_next`.
use Rattle.std.proofs.Common.{◌≡◌, ◌<◌, ◌+◌, [], ap, subst, sym, refl, length, if◌then◌else◌, arith}
use Rattle.std.proofs.lemmas.Option.{slice_get-get_or}
use Rattle.texts_in_order.specs.Order.{AreInOrder, OrderView, text_at}
use Rattle.texts_in_order.proofs.Passing.{one_more}
use Rattle.texts_in_order.proofs.in_order.TextsInOrder.pass_next.Goals as goal

pub returns-then-branch-clause-ok : goal.returns-then-branch-clause-ok
returns-then-branch-clause-ok g c start p = c.in_ok-pass_one.ensures.ok (g.A.Texts.texts c.args.all.now) start p

pub returns-clause-ok : goal.returns-clause-ok
returns-clause-ok g c start p =
    let texts = g.A.Texts.texts c.args.all.now in
    let written = g.W.Sink.written c.pass_one.new.sink in
    let old : OrderView = record { next = c.self.inside.next; kept = c.self.inside.kept.items; pending = c.self.inside.output } in
    let new : OrderView = record { next = c.self.inside.next + 1; kept = c.self.inside.kept.items; pending = c.push_at.new.output } in
    let before : AreInOrder texts start written old =
    subst (λ (o : OrderView). AreInOrder texts start written o) (sym c.self.view_is) (c.in_ok-pass_one.ensures.ok texts start p) in
    let viewed : old.next ≡ c.pass_one.new.self.next = ap (λ (o : OrderView). o.next) c.self.view_is in
    let stayed : c.pass_one.new.self.next ≡ c.args.self.now.next + 0 =
    subst (λ b. c.pass_one.new.self.next ≡ c.args.self.now.next + (if b then 1 else 0)) c.if-branch.false c.in_ok-pass_one.ensures.next in
    let there : old.next < length texts = omega (arith, viewed, stayed, c.requires.texts) in
    one_more texts start written (g.W.Sink.written c.push_at.new.sink) old new (text_at texts old.next) before
    (slice_get-get_or texts old.next [] there) (c.in_ok-push_at.ensures {u = tt}).ok refl refl (λ number kept waits. waits)
