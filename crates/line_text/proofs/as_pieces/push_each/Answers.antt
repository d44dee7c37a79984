-- The rows before a fault, and a part of the one at it, are a part of all.
use Rattle.std.proofs.Common.{◌++◌, ◌∙◌, ap, subst}
use Rattle.counted_io.specs.Device.{AppendsPrefix, one_more}
use Rattle.counted_io.specs.Output.{Passes}
use Rattle.line_text.proofs.Pushing.{pushes_cut, row_cut, row_more}
use Rattle.line_text.proofs.as_pieces.push_each.Goals as goal

pub returns-in_err-push : goal.returns-in_err-push
returns-in_err-push g c =
    pushes_cut _ _ _ _ _ _ _ c.from_residual.result c.from_residual.ensures.0
    (row_cut g.T.AsPieces.text c.args.rows.now c.loop-row.row-index c.row-item.result _ _ _ c.args.output.now _ c.loop-row-test.true c.loop-row.invariant.0
    (subst (λ text. AppendsPrefix (g.W.Sink.written c.loop-row.sink) (g.W.Sink.written c.push.new.sink) (c.loop-row.output ++ text)) (c.pieces.ensures ∙ ap g.T.AsPieces.text c.row-item.is) c.in_err-push.ensures.err))
    (c.in_err-push.ensures.count ∙ ap one_more c.loop-row.invariant.1)

pub loop-row-preserved : goal.loop-row-preserved
loop-row-preserved g c = (
  row_more g.T.AsPieces.text c.args.rows.now c.loop-row.row-index c.row-item.result _ _ _ c.args.output.now _ _ c.loop-row-test.true c.loop-row.invariant.0
      (subst (λ text. Passes (g.W.Sink.written c.loop-row.sink) (g.W.Sink.written c.push.new.sink) (c.loop-row.output ++ text) c.push.new.output) (c.pieces.ensures ∙ ap g.T.AsPieces.text c.row-item.is) c.in_ok-push.ensures.ok),
  c.in_ok-push.ensures.count ∙ c.loop-row.invariant.1,
)
