-- Each text that is left is passed on.
-- Used by `TextsInOrder::finish`.
use Rattle.std.proofs.Common.{◌∙◌}
use Rattle.texts_in_order.proofs.in_order.TextsInOrder.finish.Goals as goal

pub rest-preserved : goal.rest-preserved
rest-preserved g c = record {
  order = λ start p. c.in_ok-pass_next.ensures.ok start (c.rest.invariant.order start p);
  same = c.in_ok-pass_next.ensures.len ∙ c.rest.invariant.same;
}
