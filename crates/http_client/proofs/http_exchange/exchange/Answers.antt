-- Without fields that are handed on the request is the one of six lines.
use Rattle.std.proofs.Common.{subst}
use Rattle.path_normal.specs.PageText.{host_of, target_of}
use Rattle.http_wire.specs.Request.{request_with}
use Rattle.http_wire.specs.declared.ending.ConnectionEnding.TheVariants.{Close}
use Rattle.http_client.specs.Exchange.{Exchanges}
use Rattle.http_client.proofs.http_exchange.exchange.Goals as goal

pub returns : goal.returns
returns g c =
    let new = c.exchange_with_header.new in
    subst (λ fields.
    Exchanges (request_with Close fields (target_of c.args.url.now) (host_of c.args.url.now) c.args.agent.now) c.args.limit
    (g.W.Sink.written c.args.writer.now) (g.W.Sink.written new.writer)
    (g.W.Sink.failures c.args.writer.now) (g.W.Sink.failures new.writer) (g.S.Source.left c.args.reader.now)
    (g.S.Source.failures c.args.reader.now) (g.S.Source.failures new.reader) c.exchange_with_header.result)
    c.none-fields.ensures c.exchange_with_header.ensures
