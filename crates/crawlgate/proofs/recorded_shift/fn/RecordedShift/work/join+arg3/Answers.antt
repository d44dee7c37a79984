-- What the closure requires says that both types may go to another thread.
use denote.Param.Send.{param_send}
use Rattle.crawlgate.proofs.recorded_shift.fn.RecordedShift.work.join+arg3.Goals as goal

pub do_some-ending-requires-send-G : goal.do_some-ending-requires-send-G
do_some-ending-requires-send-G g c κs within = param_send _ _ c.requires.1.1.1.1.1.1.0

pub do_some-ending-requires-send-E : goal.do_some-ending-requires-send-E
do_some-ending-requires-send-E g c κs within = param_send _ _ c.requires.1.1.1.1.1.1.1
