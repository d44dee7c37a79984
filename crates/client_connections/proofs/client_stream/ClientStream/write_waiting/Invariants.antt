-- Tries that had nothing yet wrote nothing, and the waiting has not fallen.
use Rattle.std.specs.Io.KnownBytes.{Keeps}
use Rattle.client_connections.specs.Waiting.{WaitsNoLess}
use Rattle.client_connections.proofs.client_stream.ClientStream.write_waiting.Given as goal

abbrev pub invariant-loop : goal.invariant-loop
invariant-loop g l =
    Keeps (g.S.Write.contents l.initial.self.stream) (g.S.Write.contents l.self.stream)
    × WaitsNoLess l.initial.before l.waiting
