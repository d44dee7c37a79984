-- The octets up to the limit are given if there is one more.
use Rattle.std.proofs.Common.{arith, ap, length, length-drop}
use Rattle.http_wire.proofs.BodyLooks.{prefix_seen}
use Rattle.http_wire.proofs.body_decoder.see_prefix.Goals as goal

pub returns-clause-sees : goal.returns-clause-sees
returns-clause-sees c =
    prefix_seen _ _ _ (omega (arith, c.if-octets-start.false, ap length c.octets.ensures.value, length-drop c.args.start c.args.buffer.now)) c.give.ensures
