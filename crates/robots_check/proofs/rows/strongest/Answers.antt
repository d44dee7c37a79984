-- Each rule line is weighed or passed over.
-- `Choosing` says what that keeps.
use Rattle.std.proofs.Common.{map, refl, subst, ◌∙◌}
use Rattle.robots_verdict.proofs.CallerLemmas.{start}
use Rattle.robots_check.specs.Forms.{formed_rule}
use Rattle.robots_check.specs.Rows.{IsRow, row_seen}
use Rattle.robots_check.proofs.Choosing.{best_for, walked_more}
use Rattle.robots_check.proofs.rows.strongest.Goals as goal

pub loop-rule-init : goal.loop-rule-init
loop-rule-init c = (start c.args.path.now (map formed_rule c.args.rules.now), refl)

pub loop-rule-preserved : goal.loop-rule-preserved
loop-rule-preserved c =
    let path = c.args.path.now in
    let is_row = subst (λ p. IsRow p (formed_rule c.rule-item.result) (row_seen c.row_of-row.result)) c.loop-rule.invariant.1 c.row_of-row.ensures.row in (
      walked_more path formed_rule c.args.rules.now c.loop-rule.rule-index _ c.loop-rule.best _ (row_seen c.row_of-row.result) c.loop-rule-test.true c.loop-rule.invariant.0
          (subst (λ formed. IsRow path (formed_rule formed) (row_seen c.row_of-row.result)) c.rule-item.is is_row) c.weighed-best.ensures,
      c.row_of-row.ensures.stays ∙ c.loop-rule.invariant.1,
    )

pub returns-clause-strongest : goal.returns-clause-strongest
returns-clause-strongest c = best_for c.args.path.now formed_rule c.args.rules.now c.loop-rule.rule-index c.loop-rule.best c.loop-rule-test.false c.loop-rule.invariant.0
