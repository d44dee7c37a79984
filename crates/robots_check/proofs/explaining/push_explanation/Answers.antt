-- The second text follows the first, or a prefix of both was written.
use Rattle.counted_io.proofs.CallerLemmas.{prefix_piece}
use Rattle.line_text.proofs.CallerLemmas.{pushes_cut, pushes_then}
use Rattle.robots_check.proofs.explaining.push_explanation.Goals as goal

pub returns-in_err-push_agents : goal.returns-in_err-push_agents
returns-in_err-push_agents g c =
    pushes_cut _ _ _ _ _ _ _ c.from_residual.result c.from_residual.ensures.0
    (prefix_piece _ _ c.args.output.now _ _ c.in_err-push_agents.ensures.err) c.in_err-push_agents.ensures.count

pub returns : goal.returns
returns g c =
    pushes_then _ _ _ _ _ _ _ _ _ _ _ c.push_rows_and.result c.in_ok-push_agents.ensures.ok c.in_ok-push_agents.ensures.count c.push_rows_and.ensures
