-- This many lines were taken and answered, and no read or write failed.
use Rattle.std.proofs.Common.{◌≡◌}
use Rattle.std.specs.Io.KnownBytes.{prepend_known}
use Rattle.command_lines.proofs.Serving.{Served}
use Rattle.command_lines.proofs.session.run_session.Given as goal

abbrev pub invariant-loop-taken : goal.invariant-loop-taken
invariant-loop-taken g l = record {
  served : Served (g.A.Answerer.answers l.fn.answerer (g.W.Sink.failures l.fn.writer)) l.limit l.taken l.fn.state l.state (g.R.Source.left l.fn.reader) (prepend_known l.buffers.reader (g.R.Source.left l.reader)) (g.W.Sink.written l.fn.writer) (g.W.Sink.written l.writer) l.buffers.output;
  reads : g.R.Source.failures l.reader ≡ g.R.Source.failures l.fn.reader;
  writes : g.W.Sink.failures l.writer ≡ g.W.Sink.failures l.fn.writer;
}
