-- Tries that had nothing yet took nothing, and the waiting has not fallen.
use Rattle.std.specs.Io.KnownBytes.{Keeps}
use Rattle.client_connections.specs.Waiting.{WaitsNoLess}
use Rattle.client_connections.proofs.client_stream.ClientStream.read_waiting.Given as goal

abbrev pub invariant-loop : goal.invariant-loop
invariant-loop g l =
    Keeps (g.S.Read.remaining l.initial.self.stream) (g.S.Read.remaining l.self.stream)
    × WaitsNoLess l.initial.before l.waiting
