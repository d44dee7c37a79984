-- What was written of a piece follows the pieces before it.
use Rattle.counted_io.proofs.CallerLemmas.{on_err}
use Rattle.http_wire.proofs.RequestPieces.{cut_piece}
use Rattle.http_wire.proofs.request.write_pieces.Goals as goal

pub returns-in_err-write_all-clause-err : goal.returns-in_err-write_all-clause-err
returns-in_err-write_all-clause-err g c =
    on_err c.from_residual.result (cut_piece _ _ _ _ _ _ c.loop-piece-test.true c.loop-piece.invariant.appended c.in_err-write_all.ensures.err)
