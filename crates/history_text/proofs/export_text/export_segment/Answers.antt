-- A flush that fails leaves a part of what was pushed.
use Rattle.std.proofs.Common.{◌++◌, ◌<◌, All, List, subst}
use Rattle.std.specs.Prelude.{OnErr}
use Rattle.counted_io.specs.Device.{AppendsPrefix}
use Rattle.gate_history.specs.declared.entry.Entry.{Entry}
use Rattle.gate_history.specs.Base.{Base}
use Rattle.gate_history.specs.Grants.{IsSlotGrant}
use Rattle.gate_history.specs.Order.{IsInOrder}
use Rattle.gate_history.specs.Segment.{Sealed}
use Rattle.history_text.specs.BaseFields.{HasBaseFields}
use Rattle.history_text.specs.Entries.{HasFields}
use Rattle.history_text.specs.SpellBase.{spell_segment}
use Rattle.history_text.proofs.Exporting.{flush_cut, on_ok, segment_same, segment_text}
use Rattle.history_text.proofs.export_text.export_segment.Goals as goal

pub returns-clause-err : goal.returns-clause-err
returns-clause-err g c =
    subst (λ (s : Sealed). OnErr c.flush.result (AppendsPrefix (g.W.Sink.written c.args.sink.now) (g.W.Sink.written c.flush.new.sink) (c.args.output.now ++ spell_segment s)))
    (segment_same c.base.result.now c.entries.result.now c.args.segment.now c.base.ensures c.entries.ensures.value)
    (flush_cut _ _ _ _ _ c.flush.result c.in_ok-push_segment.ensures.pushes.ok c.flush.ensures.err)

pub returns-clause-segment : goal.returns-clause-segment
returns-clause-segment g c =
    on_ok c.flush.result (segment_text c.args.segment.now c.entries.ensures.legal c.entries.ensures.rises
    (subst (λ (b : Base). All IsSlotGrant b.grants) c.base.ensures c.in_ok-push_segment.ensures.grants)
    (subst (λ (b : Base). IsInOrder b) c.base.ensures c.in_ok-push_segment.ensures.order)
    (subst (λ (b : Base). 0 < b.entries → HasBaseFields b) c.base.ensures c.in_ok-push_segment.ensures.base)
    (subst (λ (entries : List Entry). All HasFields entries) c.entries.ensures.value c.in_ok-push_segment.ensures.fields))
