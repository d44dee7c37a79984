-- A form is at most three times as long as its pattern.
use Rattle.std.proofs.Common.{ap, arith}
use Rattle.std.proofs.lemmas.Result.{IfOk-weaker}
use Rattle.robots_text.specs.Records.{kind_seen}
use Rattle.robots_verdict.proofs.Readings.{form_small}
use Rattle.robots_verdict.proofs.index.take.Goals as goal

pub push-requires-in-Rule : goal.push-requires-in-Rule
push-requires-in-Rule c =
    let small = form_small c.form-form.result.now c.in-Rule.pattern.now c.in-Rule.kind (kind_seen c.args.item.kind) c.form-form.ensures (ap kind_seen c.in-Rule.is) in
    (omega (arith, small, c.requires.octets), omega (arith, c.requires.numbers.1), omega (arith, c.requires.numbers.0))

pub returns-in-Rule-clause-octets : goal.returns-in-Rule-clause-octets
returns-in-Rule-clause-octets c =
    let small = form_small c.form-form.result.now c.in-Rule.pattern.now c.in-Rule.kind (kind_seen c.args.item.kind) c.form-form.ensures (ap kind_seen c.in-Rule.is) in
    IfOk-weaker c.push-in-Rule.result _ _ (λ _ is. omega (arith, is, small)) c.push-in-Rule.ensures.octets
