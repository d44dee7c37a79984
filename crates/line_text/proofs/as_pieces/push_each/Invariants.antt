-- The rows so far passed to the output, and nothing failed.
use Rattle.std.proofs.Common.{◌≡◌, ◌++◌, take, flat_map}
use Rattle.counted_io.specs.Output.{Passes}
use Rattle.line_text.proofs.as_pieces.push_each.Given as goal

abbrev pub invariant-loop-row : goal.invariant-loop-row
invariant-loop-row g l =
    Passes (g.W.Sink.written l.initial.sink) (g.W.Sink.written l.sink) (l.initial.output ++ flat_map g.T.AsPieces.text (take l.row-index l.rows)) l.output
    × (g.W.Sink.failures l.sink ≡ g.W.Sink.failures l.initial.sink)
