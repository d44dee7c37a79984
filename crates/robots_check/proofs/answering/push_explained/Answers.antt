-- The answer passes after its explanation, or either is cut.
-- By the lemmas of `Before`.
use Rattle.std.proofs.Common.{map, ◌∙◌}
use Rattle.counted_io.proofs.CallerLemmas.{on_err}
use Rattle.robots_text.specs.Records.{numbered_records}
use Rattle.robots_check.specs.AgentText.{head_seen}
use Rattle.robots_check.specs.Answers.{answer_seen}
use Rattle.robots_check.specs.Forms.{formed_rule}
use Rattle.robots_check.specs.Rows.{row_seen}
use Rattle.robots_check.proofs.Before.{cuts_before, cuts_page, passes_page, told_explained}
use Rattle.robots_check.proofs.Judging.{judged}
use Rattle.robots_check.proofs.Passing.{cut_none}
use Rattle.robots_check.proofs.answering.push_explained.Goals as goal

pub returns-in_err-compared-clause-cut : goal.returns-in_err-compared-clause-cut
returns-in_err-compared-clause-cut g c = on_err c.from_residual.result (cut_none _ _ _ _ _ _)

pub find_by-finding-requires-clause-said : goal.find_by-finding-requires-clause-said
find_by-finding-requires-clause-said g c = (
  c.args.path.now,
  judged (numbered_records c.args.judge.text.now) c.args.judge.token.now c.octets.result.now c.args.path.now c.in_ok-compared.compared.strongest c.verdict_on.result
      (c.octets.ensures ∙ c.compare.ensures.stays) ((c.in_ok-compared.ensures {u = tt}).strongest (numbered_records c.args.judge.text.now) c.args.judge.token.now c.requires.ready.0.rules.are_rules) c.verdict_on.ensures,
)

pub returns-in_err-push_explanation-clause-cut : goal.returns-in_err-push_explanation-clause-cut
returns-in_err-push_explanation-clause-cut g c =
    on_err c.from_residual-in_err-push_explanation.result
    (cuts_before _ _ _ c.args.url.now _ _ _ _
    (told_explained _ _ _ c.args.url.now c.args.path.now (answer_seen c.find_by-finding.result) (map head_seen c.args.judge.agents.now) (map formed_rule c.args.judge.rules.now) c.in_ok-compared.compared.rows.items c.as_slice-rows.result.now c.in_ok-compared.compared.strongest c.verdict_on.result c.octets.result.now c.second_for.result c.octets_of-octets.result _
    c.requires.ready.1 c.requires.has_path c.requires.ready.0.heads c.requires.ready.0.rules.are_rules (c.in_ok-compared.ensures {u = tt}).rows c.as_slice-rows.ensures.value
    (c.octets.ensures ∙ c.compare.ensures.stays) (c.in_ok-compared.ensures {u = tt}).strongest c.verdict_on.ensures c.find_by-finding.ensures c.second_for.ensures c.octets_of-octets.ensures c.reason_pieces-reason.ensures)
    c.in_err-push_explanation.ensures.err)

pub returns-in_err-push-clause-cut : goal.returns-in_err-push-clause-cut
returns-in_err-push-clause-cut g c =
    on_err c.from_residual-in_err-push.result
    (cuts_page _ _ _ c.args.url.now _ _ _ _ _ _ _
    (told_explained _ _ _ c.args.url.now c.args.path.now (answer_seen c.find_by-finding.result) (map head_seen c.args.judge.agents.now) (map formed_rule c.args.judge.rules.now) c.in_ok-compared.compared.rows.items c.as_slice-rows.result.now c.in_ok-compared.compared.strongest c.verdict_on.result c.octets.result.now c.second_for.result c.octets_of-octets.result _
    c.requires.ready.1 c.requires.has_path c.requires.ready.0.heads c.requires.ready.0.rules.are_rules (c.in_ok-compared.ensures {u = tt}).rows c.as_slice-rows.ensures.value
    (c.octets.ensures ∙ c.compare.ensures.stays) (c.in_ok-compared.ensures {u = tt}).strongest c.verdict_on.ensures c.find_by-finding.ensures c.second_for.ensures c.octets_of-octets.ensures c.reason_pieces-reason.ensures)
    c.in_ok-push_explanation.ensures.ok c.finding_pieces.ensures c.in_err-push.ensures.err)

pub returns-clause-passes : goal.returns-clause-passes
returns-clause-passes g c =
    passes_page _ _ _ c.args.url.now _ _ _ _ _ _ _ _ _
    (told_explained _ _ _ c.args.url.now c.args.path.now (answer_seen c.find_by-finding.result) (map head_seen c.args.judge.agents.now) (map formed_rule c.args.judge.rules.now) c.in_ok-compared.compared.rows.items c.as_slice-rows.result.now c.in_ok-compared.compared.strongest c.verdict_on.result c.octets.result.now c.second_for.result c.octets_of-octets.result _
    c.requires.ready.1 c.requires.has_path c.requires.ready.0.heads c.requires.ready.0.rules.are_rules (c.in_ok-compared.ensures {u = tt}).rows c.as_slice-rows.ensures.value
    (c.octets.ensures ∙ c.compare.ensures.stays) (c.in_ok-compared.ensures {u = tt}).strongest c.verdict_on.ensures c.find_by-finding.ensures c.second_for.ensures c.octets_of-octets.ensures c.reason_pieces-reason.ensures)
    c.in_ok-push_explanation.ensures.ok c.finding_pieces.ensures c.in_ok-push.ensures.ok c.outcome.ensures
