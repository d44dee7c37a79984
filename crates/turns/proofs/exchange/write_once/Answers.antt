-- What is written is the front of the output, which is the front of what is pending.
use Rattle.std.proofs.Common.{take}
use Rattle.turns.proofs.Exchanging.{sends_front}
use Rattle.turns.proofs.exchange.write_once.Goals as goal

pub returns-in-Ok-clause-sent : goal.returns-in-Ok-clause-sent
returns-in-Ok-clause-sent g c = (
  take c.in-Ok.count c.output.result.now,
  c.in-Ok.ensures.bytes,
  sends_front _ _ c.output.result.now c.in-Ok.count c.output.ensures c.in-Ok.ensures.bound c.sent.ensures.pending,
)
