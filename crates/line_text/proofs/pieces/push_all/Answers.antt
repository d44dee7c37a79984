-- A prefix of the pieces is a prefix of the line.
use Rattle.std.proofs.Common.{◌∙◌, ap}
use Rattle.counted_io.specs.Device.{one_more}
use Rattle.line_text.specs.Pieces.{piece_text}
use Rattle.line_text.proofs.Pushing.{row_more, row_cut, pushes_cut}
use Rattle.line_text.proofs.pieces.push_all.Goals as goal

pub returns-in_err-push : goal.returns-in_err-push
returns-in_err-push g c =
    pushes_cut _ _ _ _ _ _ _ c.from_residual.result c.from_residual.ensures.0
    (row_cut piece_text c.args.pieces.now c.loop-piece.piece-index _ _ _ _ c.args.output.now _ c.loop-piece-test.true c.loop-piece.invariant.0 c.in_err-push.ensures.err)
    (c.in_err-push.ensures.count ∙ ap one_more c.loop-piece.invariant.1)

pub loop-piece-preserved : goal.loop-piece-preserved
loop-piece-preserved g c = (
  row_more piece_text c.args.pieces.now c.loop-piece.piece-index _ _ _ _ c.args.output.now _ _ c.loop-piece-test.true c.loop-piece.invariant.0 c.in_ok-push.ensures.ok,
  c.in_ok-push.ensures.count ∙ c.loop-piece.invariant.1,
)
