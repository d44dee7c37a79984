-- The notes on lines follow those on the whole, or a prefix of both was written.
use Rattle.std.proofs.Common.{◌++◌, ◌∙◌, ap, subst}
use Rattle.counted_io.specs.Device.{AppendsPrefix}
use Rattle.counted_io.specs.Output.{Passes, Pushes}
use Rattle.counted_io.proofs.CallerLemmas.{prefix_piece}
use Rattle.line_text.proofs.CallerLemmas.{pushes_cut, pushes_then}
use Rattle.robots_text.specs.Grouped.{grouped_seen, numbered_of}
use Rattle.robots_check.specs.Notes.{line_note}
use Rattle.std.proofs.Common.{flat_map}
use Rattle.robots_check.proofs.Saying.{notes_said}
use Rattle.robots_check.proofs.notes.push_notes.Goals as goal

pub returns-in_err-push : goal.returns-in_err-push
returns-in_err-push g c =
    pushes_cut _ _ _ _ _ _ _ c.from_residual.result c.from_residual.ensures.0
    (prefix_piece _ _ c.args.output.now _ _
    (subst (λ text. AppendsPrefix (g.E.Sink.written c.args.errors.now) (g.E.Sink.written c.push.new.sink) (c.args.output.now ++ text)) c.head_pieces.ensures c.in_err-push.ensures.err))
    c.in_err-push.ensures.count

pub returns : goal.returns
returns g c =
    pushes_then _ _ _ _ _ _ _ _ _ _ _ c.push_line_notes.result
    (subst (λ text. Passes (g.E.Sink.written c.args.errors.now) (g.E.Sink.written c.push.new.sink) (c.args.output.now ++ text) c.push.new.output) c.head_pieces.ensures c.in_ok-push.ensures.ok)
    c.in_ok-push.ensures.count
    (subst (λ text. Pushes (g.E.Sink.written c.push.new.sink) (g.E.Sink.written c.push_line_notes.new.errors) (g.E.Sink.failures c.push.new.sink) (g.E.Sink.failures c.push_line_notes.new.errors) c.push.new.output c.push_line_notes.new.output text c.push_line_notes.result)
    (ap (flat_map (λ line. line_note (numbered_of (grouped_seen line)))) c.as_slice.ensures.value ∙ notes_said c.args.said.now.text.now c.args.said.now.lines.items c.args.said.now.are) c.push_line_notes.ensures)
