-- The lines so far reached the output, and nothing failed.
use Rattle.std.proofs.Common.{◌≡◌, ◌++◌, All, flat_map, take}
use Rattle.counted_io.specs.Output.{Passes}
use Rattle.history_text.specs.SpellBase.{ended}
use Rattle.history_text.proofs.base_parts.push_rows.Given as goal

abbrev pub invariant-loop-row : goal.invariant-loop-row
invariant-loop-row g l = record {
  passes : Passes (g.W.Sink.written l.initial.sink) (g.W.Sink.written l.sink) (l.initial.output ++ flat_map (λ row. ended (g.T.TextLine.line l.letter row)) (take l.row-index l.rows)) l.output;
  count : g.W.Sink.failures l.sink ≡ g.W.Sink.failures l.initial.sink;
  fields : All g.T.TextLine.has_fields (take l.row-index l.rows);
}
