-- The strongest of the rule lines that match says what the verdict is.
-- By `Judging`.
use Rattle.std.proofs.Common.{◌∙◌}
use Rattle.robots_text.specs.Records.{numbered_records}
use Rattle.robots_check.proofs.Judging.{judged}
use Rattle.robots_check.proofs.judge.Judge.verdict.Goals as goal

pub returns-in-None : goal.returns-in-None
returns-in-None c =
    judged (numbered_records c.args.self.text.now) c.args.self.token.now c.octets-in-None.result.now c.args.path.now c.strongest-strongest.result c.verdict_on.result
    (c.octets-in-None.ensures ∙ c.strongest-strongest.ensures.stays) (c.strongest-strongest.ensures.strongest (numbered_records c.args.self.text.now) c.args.self.token.now c.requires.rules.are_rules) c.verdict_on.ensures
