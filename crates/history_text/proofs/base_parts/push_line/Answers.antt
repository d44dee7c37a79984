-- A line, then its end.
use Rattle.counted_io.proofs.CallerLemmas.{prefix_piece}
use Rattle.line_text.proofs.CallerLemmas.{pushes_cut, pushes_then}
use Rattle.line_text.specs.Pieces.{pieces_text}
use Rattle.history_text.specs.Spell.{line_end}
use Rattle.history_text.proofs.base_parts.push_line.Goals as goal

pub returns-in_err-push : goal.returns-in_err-push
returns-in_err-push g c =
    pushes_cut _ _ _ _ _ _ _ c.from_residual.result c.from_residual.ensures.0
    (prefix_piece _ _ c.args.output.now (pieces_text c.args.line) line_end c.in_err-push.ensures.err) c.in_err-push.ensures.count

pub returns : goal.returns
returns g c =
    pushes_then _ _ _ _ _ _ _ _ _ _ _ c.push-2.result c.in_ok-push.ensures.ok c.in_ok-push.ensures.count c.push-2.ensures.pushes
