-- The winning line is among the rules, and the one at its place gives the verdict.
-- By `Judging`.
use Rattle.std.proofs.Common.{map, subst}
use Rattle.robots_text.specs.declared.record.RuleKind.TheVariants as kinds
use Rattle.robots_text.specs.Records.{numbered_records}
use Rattle.robots_verdict.specs.Verdict.{IsVerdict}
use Rattle.robots_check.specs.Forms.{formed_rule}
use Rattle.robots_check.proofs.Judging.{given_deny, place_there, seen_at}
use Rattle.robots_check.proofs.judge.Judge.find_by.Goals as goal

pub find_allowed-requires-clause-said : goal.find_allowed-requires-clause-said
find_allowed-requires-clause-said c =
    (c.requires.said.0, subst (IsVerdict (numbered_records c.args.self.text.now) c.args.self.token.now c.requires.said.0) c.in-Allow.is c.requires.said.1)

pub place_of-requires-clause-there : goal.place_of-requires-clause-there
place_of-requires-clause-there c =
    let path = c.requires.said.0 in
    place_there (numbered_records c.args.self.text.now) c.args.self.token.now path (map formed_rule c.args.self.rules.now) c.in-Deny.line kinds.Disallow c.requires.ready.rules.are_rules
    (subst (IsVerdict (numbered_records c.args.self.text.now) c.args.self.token.now path) c.in-Deny.is c.requires.said.1)

pub returns-in-Allow : goal.returns-in-Allow
returns-in-Allow c path said =
    c.find_allowed.ensures path (subst (IsVerdict (numbered_records c.args.self.text.now) c.args.self.token.now path) c.in-Allow.is said)

pub returns-in-Deny : goal.returns-in-Deny
returns-in-Deny c path said =
    given_deny (numbered_records c.args.self.text.now) c.args.self.token.now path (map formed_rule c.args.self.rules.now) c.in-Deny.line c.place_of.result _ c.requires.ready.rules.are_rules
    (subst (IsVerdict (numbered_records c.args.self.text.now) c.args.self.token.now path) c.in-Deny.is said)
    c.place_of.ensures (seen_at c.args.self.rules.now c.place_of.result _ c.place_of.ensures.0)
