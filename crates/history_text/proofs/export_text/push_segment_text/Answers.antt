-- The segment is its base and its entries.
use Rattle.std.proofs.Common.{subst}
use Rattle.counted_io.specs.Output.{Pushes}
use Rattle.gate_history.specs.Segment.{Sealed}
use Rattle.history_text.specs.SpellBase.{spell_segment}
use Rattle.history_text.proofs.Exporting.{segment_same}
use Rattle.history_text.proofs.export_text.push_segment_text.Goals as goal

pub returns : goal.returns
returns g c =
    subst (λ (s : Sealed). Pushes (g.W.Sink.written c.args.sink.now) (g.W.Sink.written c.push_segment.new.sink) (g.W.Sink.failures c.args.sink.now) (g.W.Sink.failures c.push_segment.new.sink) c.args.output.now c.push_segment.new.output (spell_segment s) c.push_segment.result)
    (segment_same c.base.result.now c.entries.result.now c.args.segment.now c.base.ensures c.entries.ensures.value) c.push_segment.ensures.pushes
