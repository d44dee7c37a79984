-- A kept form is the line's; without one the pattern is already normal.
use Rattle.std.proofs.Common.{◌∙◌}
use Rattle.robots_text.specs.Walk.{rule_seen}
use Rattle.robots_verdict.proofs.Rewriting.{kept_form, own_form}
use Rattle.robots_verdict.proofs.normal_text.NormalText.form.Goals as goal

pub returns-in-Some : goal.returns-in-Some
returns-in-Some c =
    let found = c.in-Some.ensures in
    found.3 ∙ kept_form c.args.self.now (rule_seen c.args.rule) found.0 c.requires found.1 found.2

pub returns-in-None : goal.returns-in-None
returns-in-None c = own_form c.args.self.now (rule_seen c.args.rule) c.requires c.in-None.ensures
