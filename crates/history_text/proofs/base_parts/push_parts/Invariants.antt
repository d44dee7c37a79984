-- The parts so far reached the output, and nothing failed.
use Rattle.std.proofs.Common.{◌≡◌, ◌++◌, All, flat_map, take}
use Rattle.counted_io.specs.Output.{Passes}
use Rattle.history_text.specs.Parts.{HasPartFields, part_text}
use Rattle.history_text.proofs.base_parts.push_parts.Given as goal

abbrev pub invariant-loop-part : goal.invariant-loop-part
invariant-loop-part g l = record {
  passes : Passes (g.W.Sink.written l.initial.sink) (g.W.Sink.written l.sink) (l.initial.output ++ flat_map part_text (take l.part-index l.parts)) l.output;
  count : g.W.Sink.failures l.sink ≡ g.W.Sink.failures l.initial.sink;
  fields : All HasPartFields (take l.part-index l.parts);
}
