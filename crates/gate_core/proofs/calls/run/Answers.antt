-- One more call has its reply, for which there is room.
use Rattle.std.proofs.Common.{rules}
use Rattle.gate_core.proofs.Headlines.{replies_push}
use Rattle.gate_core.proofs.calls.run.Goals as goal

pub loop-call-preserved : goal.loop-call-preserved
loop-call-preserved c = (
  rw c.push_reserved.ensures.items
      (replies_push _ _ _ c.loop-call.book c.in-Some.call c.answer.result c.answer.new.self c.loop-call.invariant.0 c.answer.ensures.step),
  search rules,
)
