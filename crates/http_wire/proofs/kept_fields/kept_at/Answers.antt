-- Octets that go on behind a head are none; else the fields are those that its spans cover.
use Rattle.std.proofs.Common.{ap, arith}
use Rattle.std.proofs.lemmas.Result.{IfOk-weaker}
use Rattle.http_wire.specs.Kept.{kept_pairs}
use Rattle.http_wire.proofs.KeptHeads.{keeps_head, keeps_none, shorter_is_none}
use Rattle.http_wire.proofs.kept_fields.kept_at.Goals as goal

pub returns-then-spans-octets : goal.returns-then-spans-octets
returns-then-spans-octets c =
    keeps_none c.args.octets.now (kept_pairs c.new.result.items)
    (shorter_is_none c.args.octets.now c.args.headers.now c.args.spans c.requires.at.0 c.requires.at.1
    (λ whole. omega (arith, c.if-spans-octets.true, whole)))
    (ap kept_pairs c.new.ensures.items)

pub returns : goal.returns
returns c =
    IfOk-weaker c.kept_among.result _ _
    (λ kept is. keeps_head c.args.octets.now c.args.headers.now c.args.spans c.requires.at.0 (kept_pairs kept.items) c.requires.at.1
    (omega (arith, c.if-spans-octets.false, c.requires.at.1.within.section.len_fits)) is)
    c.kept_among.ensures

pub kept_among-requires-clause-within : goal.kept_among-requires-clause-within
kept_among-requires-clause-within c = c.requires.at.1.within
