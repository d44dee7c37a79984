-- The first row that matches gives the verdict.
use Rattle.std.proofs.Common.{◌∙◌, refl, sym, subst}
use Rattle.robots_text.specs.Records.{numbered_records}
use Rattle.robots_verdict.specs.Verdict.{IsVerdict}
use Rattle.robots_verdict.proofs.Verdicts.{first_within, policy_says}
use Rattle.robots_verdict.proofs.policy.Policy.verdict_by.Goals as goal

pub verdict-requires : goal.verdict-requires
verdict-requires c = first_within c.args.index.now.rows c.groups_for-groups.result.now c.args.path.now c.first.result c.first.ensures.finds

pub returns : goal.returns
returns c =
    subst (IsVerdict (numbered_records c.args.self.now) c.args.token.now c.args.path.now) (sym c.verdict.ensures)
    (policy_says c.args.self.now c.args.self.now c.args.index.now.rows c.args.index.now.heads c.args.token.now c.as_bytes.result.now c.args.path.now c.groups_for-groups.result.now c.first.result
    refl c.requires.index.0 c.text.ensures.own (c.as_bytes.ensures.value ∙ c.text.ensures.value) c.groups_for-groups.ensures.groups c.requires.elsewhere c.first.ensures.finds)
