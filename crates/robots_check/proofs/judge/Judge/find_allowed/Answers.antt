-- The winning line is among the rules, and the one at its place gives the verdict.
-- By `Judging`.
use Rattle.std.proofs.Common.{map, subst}
use Rattle.robots_text.specs.declared.record.RuleKind.TheVariants as kinds
use Rattle.robots_text.specs.Records.{numbered_records}
use Rattle.robots_verdict.specs.Verdict.{IsVerdict}
use Rattle.robots_verdict.specs.declared.decision.Verdict.TheVariants.{Allow}
use Rattle.robots_check.specs.Forms.{formed_rule}
use Rattle.robots_check.proofs.Judging.{given_allow, place_there, seen_at}
use Rattle.robots_check.proofs.judge.Judge.find_allowed.Goals as goal

pub place_of-requires-clause-there : goal.place_of-requires-clause-there
place_of-requires-clause-there c =
    let path = c.requires.said.0 in
    place_there (numbered_records c.args.self.text.now) c.args.self.token.now path (map formed_rule c.args.self.rules.now) c.in-Line.line kinds.Allow c.requires.ready.rules.are_rules
    (subst (λ by. IsVerdict (numbered_records c.args.self.text.now) c.args.self.token.now path (Allow by)) c.in-Line.is c.requires.said.1)

pub returns-in-Line : goal.returns-in-Line
returns-in-Line c path said =
    given_allow (numbered_records c.args.self.text.now) c.args.self.token.now path (map formed_rule c.args.self.rules.now) c.in-Line.line c.place_of.result _ c.requires.ready.rules.are_rules
    (subst (λ by. IsVerdict (numbered_records c.args.self.text.now) c.args.self.token.now path (Allow by)) c.in-Line.is said)
    c.place_of.ensures (seen_at c.args.self.rules.now c.place_of.result _ c.place_of.ensures.0)
