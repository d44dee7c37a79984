-- The last fault was one of a fetch.
-- Used by `fetch_by_tls`.
use Rattle.std.specs.Prelude.{None, Err}
use Rattle.http_wire.specs.Response.{Tells}
use Rattle.http_client.proofs.tcp_client.TcpClient.fetch_by_tls.Given as goal

abbrev pub invariant-loop-address : goal.invariant-loop-address
invariant-loop-address g l = Tells None l.asked.page.now.limit (Err l.last)
