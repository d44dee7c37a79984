-- Texts that wait are passed on one by one.
-- Used by `TextsInOrder::pass`.
use Rattle.std.proofs.Common.{◌∙◌, arith}
use Rattle.texts_in_order.proofs.Passing.{order_prefix}
use Rattle.texts_in_order.proofs.in_order.TextsInOrder.pass.Goals as goal

pub returns-in_err-pass_one-clause-prefix : goal.returns-in_err-pass_one-clause-prefix
returns-in_err-pass_one-clause-prefix g c texts start p =
    c.pass_one.ensures.prefix texts start (c.passes.invariant.order texts start p)

pub returns-then-not-branch-clause-ok : goal.returns-then-not-branch-clause-ok
returns-then-not-branch-clause-ok g c texts start p =
    c.in_ok-pass_one.ensures.ok texts start (c.passes.invariant.order texts start p)

pub returns-then-not-branch-clause-prefix : goal.returns-then-not-branch-clause-prefix
returns-then-not-branch-clause-prefix g c texts start p =
    c.pass_one.ensures.prefix texts start (c.passes.invariant.order texts start p)

pub passes-preserved : goal.passes-preserved
passes-preserved g c = record {
  order = λ texts start p. c.in_ok-pass_one.ensures.ok texts start (c.passes.invariant.order texts start p);
  further = omega (arith, c.passes.invariant.further, c.in_ok-pass_one.ensures.next);
  failures = c.in_ok-pass_one.ensures.count ∙ c.passes.invariant.failures;
}

pub returns-clause-prefix : goal.returns-clause-prefix
returns-clause-prefix g c texts start p =
    order_prefix texts start (g.W.Sink.written c.passes.sink) c.passes.self (c.passes.invariant.order texts start p)
