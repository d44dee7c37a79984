-- What the closure requires says that the gate's type may go to another thread.
use denote.Param.Send.{param_send}
use Rattle.line_server.proofs.server.fn.Server.employ_visiting.join+arg3.Goals as goal

pub fetch_and_shut-requires-send-G : goal.fetch_and_shut-requires-send-G
fetch_and_shut-requires-send-G g c κs within = param_send _ _ c.requires.1.1.1.1.1.1.0
