-- A form is at most three times as long as its pattern.
use Rattle.std.proofs.Common.{ap, arith}
use Rattle.std.proofs.lemmas.Result.{IfOk-weaker}
use Rattle.robots_text.specs.Records.{kind_seen}
use Rattle.robots_verdict.proofs.Rewriting.{made_small}
use Rattle.robots_verdict.proofs.rewritten.take.Goals as goal

pub push-requires : goal.push-requires
push-requires c =
    let small = made_small c.clear.new.self.items c.push_normal_pattern.new.form.items c.as_slice-2.result.now c.in-Rule.pattern.now c.in-Rule.field-0 (kind_seen c.args.item.kind)
    c.clear.ensures.items c.in_ok-push_normal_pattern.ensures.value c.as_slice-2.ensures.value (ap kind_seen c.in-Rule.is) in
    omega (arith, small, c.requires.octets)

pub returns-clause-octets : goal.returns-clause-octets
returns-clause-octets c =
    let small = made_small c.clear.new.self.items c.push_normal_pattern.new.form.items c.as_slice-2.result.now c.in-Rule.pattern.now c.in-Rule.field-0 (kind_seen c.args.item.kind)
    c.clear.ensures.items c.in_ok-push_normal_pattern.ensures.value c.as_slice-2.ensures.value (ap kind_seen c.in-Rule.is) in
    IfOk-weaker c.push.result _ _ (λ _ is. omega (arith, is, small)) c.push.ensures.octets
