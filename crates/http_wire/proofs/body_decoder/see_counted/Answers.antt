-- A counted body is cut at the limit, or given whole.
use Rattle.std.proofs.Common.{arith, ap, length, length-drop}
use Rattle.std.proofs.lemmas.Bool.{false≢true}
use Rattle.http_wire.proofs.BodyLooks.{counted_cut, counted_seen}
use Rattle.http_wire.proofs.body_decoder.see_counted.Goals as goal

pub returns-then-size-limit-clause-sees : goal.returns-then-size-limit-clause-sees
returns-then-size-limit-clause-sees c = counted_cut _ _ _ _ (omega arith) c.see_prefix.ensures.sees

pub returns-then-come-size-2-clause-sees : goal.returns-then-come-size-2-clause-sees
returns-then-come-size-2-clause-sees c =
    let come = ap length c.octets.ensures.value in
    let behind = length-drop c.args.start c.args.buffer.now in
    counted_seen _ _ _ _ _ (omega arith) (omega (arith, c.if-come-size-2.true, come, behind)) (λ _. omega (arith, c.if-come-size-2.true, come, behind)) c.give.ensures

pub returns-clause-sees : goal.returns-clause-sees
returns-clause-sees c =
    let come = ap length c.octets.ensures.value in
    let behind = length-drop c.args.start c.args.buffer.now in
    counted_seen _ _ _ _ _ (omega arith) (omega (arith, c.if-come-size.false, come, behind)) (λ alone. absurd (false≢true alone)) c.give-2.ensures
