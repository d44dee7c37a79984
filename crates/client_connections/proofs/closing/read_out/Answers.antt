-- Each read takes at most what is left.
use Rattle.std.proofs.Common.{arith}
use Rattle.client_connections.proofs.Takes.{takes_kept, takes_more}
use Rattle.client_connections.proofs.closing.read_out.Goals as goal
use Rattle.client_connections.proofs.closing.read_out.Goals.{in-Ok-read_piece, in-Err}

pub loop-preserved : goal.loop-preserved
loop-preserved g c =
    elim c.match-read_piece.branch [
      | in-Ok-read_piece w ↦ (takes_more _ _ _ _ _ _ c.loop.invariant.0 w.in-Ok-read_piece.ensures.bytes (omega arith), omega arith)
      | in-Err w ↦ (takes_kept _ _ _ _ _ c.loop.invariant.0 w.in-Err.ensures.bytes (omega arith), omega arith)
    ]

pub returns-in_default-read_piece : goal.returns-in_default-read_piece
returns-in_default-read_piece g c =
    let bound : _ = c.in-Ok-read_piece.ensures.bound
    in takes_more _ _ _ _ _ _ c.loop.invariant.0 c.in-Ok-read_piece.ensures.bytes (omega (arith, bound))
