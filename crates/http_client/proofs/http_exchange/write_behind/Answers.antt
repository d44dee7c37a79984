-- The output is that of the header and then the request.
use Rattle.std.proofs.KnownBytes.{Appends-trans}
use Rattle.std.proofs.lemmas.Result.{on_err_weaker, on_ok_weaker}
use Rattle.counted_io.proofs.CallerLemmas.{on_err, prefix_longer}
use Rattle.http_client.specs.Requests.{octets_of}
use Rattle.http_client.proofs.Exchanges.{prefix_behind}
use Rattle.http_client.proofs.http_exchange.write_behind.Goals as goal

pub returns-in_err-write_all-clause-err : goal.returns-in_err-write_all-clause-err
returns-in_err-write_all-clause-err g c =
    on_err c.from_residual.result (prefix_longer _ _ c.args.header.now (octets_of c.args.page.now) c.in_err-write_all.ensures.err)

pub returns-clause-ok : goal.returns-clause-ok
returns-clause-ok g c =
    on_ok_weaker c.write_get_with.result (Appends-trans _ _ _ c.args.header.now (octets_of c.args.page.now) c.in_ok-write_all.ensures.ok) c.write_get_with.ensures.ok

pub returns-clause-err : goal.returns-clause-err
returns-clause-err g c =
    on_err_weaker c.write_get_with.result (prefix_behind _ _ _ c.args.header.now (octets_of c.args.page.now) c.in_ok-write_all.ensures.ok) c.write_get_with.ensures.err
