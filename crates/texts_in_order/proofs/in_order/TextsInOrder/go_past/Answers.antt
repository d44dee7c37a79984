-- A text that does not wait counts as empty.
-- Used by `TextsInOrder::go_past`.
use Rattle.std.proofs.Common.{◌≡◌, ◌+◌, ◌∙◌, [], Some, ap, subst, sym, length, if◌then◌else◌, arith}
use Rattle.std.specs.List.{slice_get}
use Rattle.std.proofs.lemmas.Option.{slice_get-get_or}
use Rattle.texts_in_order.specs.Order.{AreInOrder, OrderView, waiting_at}
use Rattle.texts_in_order.proofs.Passing.{blank_next}
use Rattle.texts_in_order.proofs.in_order.TextsInOrder.go_past.Goals as goal

pub returns-then-not-branch : goal.returns-then-not-branch
returns-then-not-branch g c =
    let written = g.W.Sink.written c.pass_one.new.sink in
    let old = c.args.self.now in
    let after : OrderView = record { next = c.self.inside.next; kept = c.self.inside.kept.items; pending = c.self.inside.output } in
    let same : after.next ≡ c.pass_one.new.self.next = ap (λ (o : OrderView). o.next) c.self.view_is in
    let stayed : c.pass_one.new.self.next ≡ old.next + 0 =
    subst (λ b. c.pass_one.new.self.next ≡ old.next + (if b then 1 else 0)) c.if-not-branch.true c.in_ok-pass_one.ensures.next in
    let here : after.next ≡ old.next = omega (arith, same, stayed) in
    record {
      next = omega (arith, here);
      count = ap (λ (o : OrderView). length o.kept) c.self.view_is ∙ c.in_ok-pass_one.ensures.len;
      later = λ number there. ap (λ (o : OrderView). waiting_at o.kept number) c.self.view_is ∙ c.in_ok-pass_one.ensures.others number there;
      order = λ texts start there blank p.
          let before : AreInOrder texts start written after =
          subst (λ (o : OrderView). AreInOrder texts start written o) (sym c.self.view_is) (c.in_ok-pass_one.ensures.ok texts start p) in
          let is : slice_get texts old.next ≡ Some [] =
          slice_get-get_or texts old.next [] there ∙ ap Some (blank (c.in_ok-pass_one.ensures.waited cc)) in
          blank_next texts start written after (subst (λ n. slice_get texts n ≡ Some []) (sym here) is) before;
    }

pub returns-else-not-branch : goal.returns-else-not-branch
returns-else-not-branch g c = record {
  next = subst (λ b. c.pass_one.new.self.next ≡ c.args.self.now.next + (if b then 1 else 0)) c.if-not-branch.false c.in_ok-pass_one.ensures.next;
  count = c.in_ok-pass_one.ensures.len;
  later = λ number there. c.in_ok-pass_one.ensures.others number there;
  order = λ texts start there blank p. c.in_ok-pass_one.ensures.ok texts start p;
}
