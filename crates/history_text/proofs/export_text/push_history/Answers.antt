-- The head, then the lines.
use Rattle.counted_io.proofs.CallerLemmas.{prefix_piece}
use Rattle.line_text.proofs.CallerLemmas.{pushes_cut, pushes_then}
use Rattle.history_text.specs.declared.version.Version.TheVariants.{Two}
use Rattle.history_text.specs.Spell.{version_line, entry_lines}
use Rattle.history_text.proofs.export_text.push_history.Goals as goal

pub returns-in_err-push-clause-pushes : goal.returns-in_err-push-clause-pushes
returns-in_err-push-clause-pushes g c =
    pushes_cut _ _ _ _ _ _ _ c.from_residual.result c.from_residual.ensures.0
    (prefix_piece _ _ c.args.output.now (version_line Two) (entry_lines Two c.args.entries.now) c.in_err-push.ensures.err) c.in_err-push.ensures.count

pub returns-clause-pushes : goal.returns-clause-pushes
returns-clause-pushes g c =
    pushes_then _ _ _ _ _ _ _ _ _ _ _ c.push_rows.result c.in_ok-push.ensures.ok c.in_ok-push.ensures.count c.push_rows.ensures.pushes
