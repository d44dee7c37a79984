-- What the closure requires says that the gate's type may go to another thread.
use denote.Param.Send.{param_send}
use Rattle.line_server.proofs.server.fn.Server.employ_visiting.join+arg2.Goals as goal

pub serve_http-visited-requires-send-G : goal.serve_http-visited-requires-send-G
serve_http-visited-requires-send-G g c κs within = param_send _ _ c.requires.1.1.1.1.1.1.0
