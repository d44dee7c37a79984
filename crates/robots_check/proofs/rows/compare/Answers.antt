-- One more rule line's row follows those before, and is weighed or passed over.
-- `Choosing` says what that keeps.
use Rattle.std.proofs.Common.{◌+◌, ◌∷◌, [], map, take, ap, sym, subst, ◌∙◌}
use Rattle.std.proofs.lemmas.List.{map-append}
use Rattle.robots_check.specs.Forms.{formed_rule}
use Rattle.robots_check.specs.Rows.{AreRows, IsRow, row_seen}
use Rattle.robots_check.proofs.Choosing.{best_for, row_added, walked_more}
use Rattle.robots_check.proofs.rows.compare.Goals as goal

pub loop-rule-preserved : goal.loop-rule-preserved
loop-rule-preserved c =
    let path = c.args.path.now in
    let is_row = subst (λ formed. IsRow path (formed_rule formed) (row_seen c.row_of-row.result)) c.rule-item.is
    (subst (λ p. IsRow p (formed_rule c.rule-item.result) (row_seen c.row_of-row.result)) c.loop-rule.invariant.2 c.row_of-row.ensures.row) in
    let added = row_added path formed_rule c.args.rules.now c.loop-rule.rule-index _ (map row_seen c.loop-rule.rows.items) (row_seen c.row_of-row.result) c.loop-rule-test.true c.loop-rule.invariant.0 is_row in (
      subst (AreRows path (map formed_rule (take (c.loop-rule.rule-index + 1) c.args.rules.now))) (sym (ap (map row_seen) (c.in_ok-push.ensures {u = tt}).items ∙ map-append row_seen c.loop-rule.rows.items (c.row_of-row.result ∷ []))) added,
      walked_more path formed_rule c.args.rules.now c.loop-rule.rule-index _ c.loop-rule.strongest _ (row_seen c.row_of-row.result) c.loop-rule-test.true c.loop-rule.invariant.1 is_row c.weighed-strongest.ensures,
      c.row_of-row.ensures.stays ∙ c.loop-rule.invariant.2,
    )

pub returns-clause-strongest : goal.returns-clause-strongest
returns-clause-strongest c = best_for c.args.path.now formed_rule c.args.rules.now c.loop-rule.rule-index c.loop-rule.strongest c.loop-rule-test.false c.loop-rule.invariant.1
