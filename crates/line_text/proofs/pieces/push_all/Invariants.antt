-- The pieces so far passed to the output, and nothing failed.
use Rattle.std.proofs.Common.{◌≡◌, ◌++◌, take, flat_map}
use Rattle.counted_io.specs.Output.{Passes}
use Rattle.line_text.specs.Pieces.{piece_text}
use Rattle.line_text.proofs.pieces.push_all.Given as goal

abbrev pub invariant-loop-piece : goal.invariant-loop-piece
invariant-loop-piece g l =
    Passes (g.W.Sink.written l.initial.sink) (g.W.Sink.written l.sink) (l.initial.output ++ flat_map piece_text (take l.piece-index l.pieces)) l.output
    × (g.W.Sink.failures l.sink ≡ g.W.Sink.failures l.initial.sink)
