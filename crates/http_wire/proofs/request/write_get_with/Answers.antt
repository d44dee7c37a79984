-- The pieces in a row are the request.
use Rattle.std.proofs.Common.{◌∙◌, subst, OnOk, OnErr}
use Rattle.std.specs.Io.KnownBytes.{Appends}
use Rattle.counted_io.specs.Device.{AppendsPrefix}
use Rattle.path_normal.specs.PageText.{host_of, target_of}
use Rattle.http_wire.proofs.RequestPieces.{request_with_joined}
use Rattle.http_wire.proofs.request.write_get_with.Goals as goal

pub returns-clause-ok : goal.returns-clause-ok
returns-clause-ok g c =
    let is = request_with_joined c.args.ending c.args.fields.now (target_of c.args.url.now) (host_of c.args.url.now) c.args.agent.now c.as_bytes.result.now c.as_bytes-2.result.now c.as_bytes-3.result.now
    c.line_from-tags.result c.line_from-since.result c.line_from-types.result c.line_from-languages.result c.closing_from-closing.result
    (c.as_bytes.ensures.value ∙ c.target.ensures.value) (c.as_bytes-2.ensures.value ∙ c.host.ensures.value) c.as_bytes-3.ensures.value
    c.line_from-tags.ensures c.line_from-since.ensures c.line_from-types.ensures c.line_from-languages.ensures c.closing_from-closing.ensures in
    subst (λ octets. OnOk c.write_gathered.result (Appends (g.W.Sink.written c.args.writer.now) (g.W.Sink.written c.write_gathered.new.writer) octets)) is c.write_gathered.ensures.ok

pub returns-clause-err : goal.returns-clause-err
returns-clause-err g c =
    let is = request_with_joined c.args.ending c.args.fields.now (target_of c.args.url.now) (host_of c.args.url.now) c.args.agent.now c.as_bytes.result.now c.as_bytes-2.result.now c.as_bytes-3.result.now
    c.line_from-tags.result c.line_from-since.result c.line_from-types.result c.line_from-languages.result c.closing_from-closing.result
    (c.as_bytes.ensures.value ∙ c.target.ensures.value) (c.as_bytes-2.ensures.value ∙ c.host.ensures.value) c.as_bytes-3.ensures.value
    c.line_from-tags.ensures c.line_from-since.ensures c.line_from-types.ensures c.line_from-languages.ensures c.closing_from-closing.ensures in
    subst (λ octets. OnErr c.write_gathered.result (AppendsPrefix (g.W.Sink.written c.args.writer.now) (g.W.Sink.written c.write_gathered.new.writer) octets)) is c.write_gathered.ensures.err
