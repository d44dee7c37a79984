-- The pieces so far were written without a failure.
use Rattle.std.proofs.Common.{◌≡◌, take}
use Rattle.std.specs.Io.KnownBytes.{Appends}
use Rattle.http_wire.specs.Request.{joined_pieces}
use Rattle.http_wire.proofs.request.write_pieces.Given as goal

abbrev pub invariant-loop-piece : goal.invariant-loop-piece
invariant-loop-piece g l = record {
  appended : Appends (g.W.Sink.written l.fn.writer) (g.W.Sink.written l.writer) (joined_pieces (take l.piece-index l.pieces));
  count : g.W.Sink.failures l.writer ≡ g.W.Sink.failures l.fn.writer;
}
