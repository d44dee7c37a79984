-- A prefix of the notes is a prefix of the text.
use Rattle.std.proofs.Common.{◌∙◌, ap}
use Rattle.counted_io.specs.Device.{one_more}
use Rattle.line_text.proofs.CallerLemmas.{pushes_cut, row_cut, row_more}
use Rattle.robots_text.specs.Grouped.{grouped_seen, numbered_of}
use Rattle.robots_check.specs.Notes.{line_note}
use Rattle.robots_check.proofs.notes.push_line_notes.Goals as goal

pub returns-in_err-push_line_note : goal.returns-in_err-push_line_note
returns-in_err-push_line_note g c =
    pushes_cut _ _ _ _ _ _ _ c.from_residual.result c.from_residual.ensures.0
    (row_cut (λ line. line_note (numbered_of (grouped_seen line))) c.args.lines.now c.loop-line.line-index _ _ _ _ c.args.output.now _ c.loop-line-test.true c.loop-line.invariant.0
    c.in_err-push_line_note.ensures.err)
    (c.in_err-push_line_note.ensures.count ∙ ap one_more c.loop-line.invariant.1)

pub loop-line-preserved : goal.loop-line-preserved
loop-line-preserved g c = (
  row_more (λ line. line_note (numbered_of (grouped_seen line))) c.args.lines.now c.loop-line.line-index _ _ _ _ c.args.output.now _ _ c.loop-line-test.true c.loop-line.invariant.0
      c.in_ok-push_line_note.ensures.ok,
  c.in_ok-push_line_note.ensures.count ∙ c.loop-line.invariant.1,
)
