-- One more read or write, behind those so far.
use Rattle.std.proofs.Common.{arith}
use Rattle.turns.proofs.Exchanging.{hears_then, tells_then}
use Rattle.turns.proofs.exchange.exchange.Goals as goal

pub returns-in-Some-clause-heard : goal.returns-in-Some-clause-heard
returns-in-Some-clause-heard g c = hears_then _ _ _ _ _ _ c.loop.invariant.0 c.move_once.ensures.heard

pub returns-in-Some-clause-sent : goal.returns-in-Some-clause-sent
returns-in-Some-clause-sent g c = tells_then _ _ _ _ _ _ c.loop.invariant.1 c.move_once.ensures.sent

pub loop-preserved : goal.loop-preserved
loop-preserved g c = (
  hears_then _ _ _ _ _ _ c.loop.invariant.0 c.move_once.ensures.heard,
  tells_then _ _ _ _ _ _ c.loop.invariant.1 c.move_once.ensures.sent,
  omega (arith, c.loop.invariant.2, c.loop.auto.buffer, c.move_once.auto.buffer),
)
