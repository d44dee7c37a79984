-- Reads that a signal interrupted took nothing.
use Rattle.std.specs.Io.KnownBytes.{Keeps}
use Rattle.http_client.proofs.timed_stream.TimedStreamRead.read.Given as goal

abbrev pub invariant-loop : goal.invariant-loop
invariant-loop g l = Keeps (g.S.Read.remaining l.initial.self.stream) (g.S.Read.remaining l.self.stream)
