-- A flush that fails leaves a part of what was pushed.
use Rattle.history_text.proofs.Exporting.{flush_cut}
use Rattle.history_text.proofs.export_text.export_base.Goals as goal

pub returns-clause-err : goal.returns-clause-err
returns-clause-err g c = flush_cut _ _ _ _ _ c.flush.result c.in_ok-push_segment.ensures.pushes.ok c.flush.ensures.err
