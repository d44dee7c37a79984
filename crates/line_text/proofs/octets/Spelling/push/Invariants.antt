-- The octets so far passed to the output, and nothing failed.
use Rattle.std.proofs.Common.{◌≡◌, ◌++◌, take, flat_map}
use Rattle.counted_io.specs.Output.{Passes}
use Rattle.line_text.specs.Escapes.{spelled_octet}
use Rattle.line_text.proofs.octets.Spelling.push.Given as goal

abbrev pub invariant-loop-octet : goal.invariant-loop-octet
invariant-loop-octet g l =
    Passes (g.W.Sink.written l.initial.sink) (g.W.Sink.written l.sink) (l.initial.output ++ flat_map (spelled_octet l.fn.self) (take l.octet-index l.octets)) l.output
    × (g.W.Sink.failures l.sink ≡ g.W.Sink.failures l.initial.sink)
