-- The second text follows the first, or a prefix of both was written.
use Rattle.counted_io.proofs.CallerLemmas.{prefix_piece}
use Rattle.line_text.proofs.CallerLemmas.{pushes_cut, pushes_then}
use Rattle.robots_check.proofs.explaining.push_rows_and.Goals as goal

pub returns-in_err-push_each : goal.returns-in_err-push_each
returns-in_err-push_each g c =
    pushes_cut _ _ _ _ _ _ _ c.from_residual.result c.from_residual.ensures.0
    (prefix_piece _ _ c.args.output.now _ _ c.in_err-push_each.ensures.err) c.in_err-push_each.ensures.count

pub returns : goal.returns
returns g c =
    pushes_then _ _ _ _ _ _ _ _ _ _ _ c.push.result c.in_ok-push_each.ensures.ok c.in_ok-push_each.ensures.count c.push.ensures
