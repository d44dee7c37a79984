-- The line is that of the pieces if each was found and nothing is left.
use Rattle.std.proofs.Common.{[], sym, ◌∙◌, append-nil}
use Rattle.std.proofs.lemmas.Bool.{true≢false}
use Rattle.line_text.specs.Pieces.{piece_text}
use Rattle.line_text.proofs.Stripping.{row_lacks, row_whole}
use Rattle.line_text.proofs.pieces.is_row.Goals as goal

pub returns-in-None : goal.returns-in-None
returns-in-None c = (
  λ found. absurd (true≢false (sym found)),
  λ is. absurd (row_lacks piece_text c.args.pieces.now c.loop-piece.piece-index _ c.args.line.now c.loop-piece.rest.now c.loop-piece-test.true c.loop-piece.invariant c.in-None.ensures [] (is ∙ sym (append-nil _))),
)

pub returns : goal.returns
returns c =
    row_whole piece_text c.args.pieces.now c.loop-piece.piece-index c.args.line.now c.loop-piece.rest.now c.is_empty.result c.loop-piece-test.false c.loop-piece.invariant c.is_empty.ensures
