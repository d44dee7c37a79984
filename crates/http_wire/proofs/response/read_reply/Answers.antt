-- The answer of the whole input.
use Rattle.std.proofs.Common.{refl, sym, subst}
use Rattle.http_wire.specs.Response.{Tells}
use Rattle.http_wire.specs.declared.response.HttpReply.{HttpReply}
use Rattle.http_wire.proofs.Answered.{ends_as, reply_told, fault_told}
use Rattle.http_wire.proofs.Faults.{same_fault}
use Rattle.http_wire.proofs.response.read_reply.Goals as goal

pub returns-clause-tells : goal.returns-clause-tells
returns-clause-tells g c =
    reply_told (g.S.Source.left c.args.source.now) (g.S.Source.left c.read_final.new.source) c.read_final.new.buffer c.in_ok-head.head c.args.limit
    c.in_ok-body.body _ c.in_ok-head.ensures.grows c.in_ok-head.ensures.found.0 c.in_ok-body.ensures.reads refl

pub returns-in_err-body-clause-tells : goal.returns-in_err-body-clause-tells
returns-in_err-body-clause-tells g c =
    subst (Tells (g.S.Source.left c.args.source.now) c.args.limit) (sym (same_fault _ _ c.from_residual-in_err-body.ensures.1))
    (fault_told (g.S.Source.left c.args.source.now) (g.S.Source.left c.read_final.new.source) c.read_final.new.buffer c.in_ok-head.head c.args.limit
    c.in_err-body.field-0.0 c.in_ok-head.ensures.grows c.in_ok-head.ensures.found.0 c.in_ok-head.ensures.found.1 c.in_err-body.ensures.reads)

pub returns-clause-ends : goal.returns-clause-ends
returns-clause-ends g c =
    let head = c.in_ok-head.head in
    let body = c.in_ok-body.body in
    let reply : HttpReply = record { status = head.status; location = head.location; max_age = head.max_age; head = head.octets; body = body.octets; cut = body.cut } in
    ends_as (g.S.Source.left c.args.source.now) (g.S.Source.left c.read_final.new.source) (g.S.Source.left c.read_body.new.source) c.read_final.new.buffer
    head c.args.limit body reply c.ending_after.result c.in_ok-head.ensures.grows c.in_ok-head.ensures.found.0 c.in_ok-body.ensures.alone
    c.ending_after.ensures refl
