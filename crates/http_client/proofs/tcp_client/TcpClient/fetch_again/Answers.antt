-- The result is that of the exchange, with TLS or without.
use Rattle.std.proofs.Common.{Result, sym, subst}
use Rattle.std.specs.Prelude.{None}
use Rattle.http_wire.specs.Response.{Tells}
use Rattle.http_wire.specs.declared.fault.WireFault.{WireFault}
use Rattle.http_wire.specs.declared.response.HttpReply.{HttpReply}
use Rattle.http_client.specs.declared.exchanged.Exchanged.{Exchanged}
use Rattle.http_client.proofs.tcp_client.TcpClient.fetch_again.Goals.{then-kept, else-kept}
use Rattle.http_client.proofs.tcp_client.TcpClient.fetch_again.Goals as goal

pub returns-clause-tells : goal.returns-clause-tells
returns-clause-tells g c =
    let limit = c.args.asked.now.page.now.limit in
    let P : Exchanged → Type 0 = λ e. Tells None limit e.given in
    let Q : Result HttpReply WireFault → Type 0 = λ r. Tells None limit r in
    subst Q (sym c.end.ensures) (elim c.if-kept.branch [
      | then-kept w ↦ subst P (sym w.exchanged-is) w.exchange_by_tls-exchanged.ensures
      | else-kept w ↦ subst P (sym w.exchanged-is) w.exchange_straight-exchanged.ensures
    ])
