-- The host of a page is written as the host and the port of its URL.
use Rattle.std.proofs.Common.{List, ℕ, subst}
use Rattle.http_client.proofs.PageServers.{Cuts, ReadsPort, page_server}
use Rattle.http_client.proofs.host_port.host_port_of.Goals as goal

pub returns : goal.returns
returns c =
    let P : List ℕ → Type 0 = λ text. Cuts text c.split_host.result.0.now c.split_host.result.1.now in
    page_server c.args.url.now _ _ _ c.host.ensures.page (subst P c.host.ensures.value c.split_host.ensures) (subst (ReadsPort c.split_host.result.1.now c.port_of.result) c.scheme_port.ensures c.port_of.ensures)
