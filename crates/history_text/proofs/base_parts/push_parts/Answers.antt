-- The parts before a fault and a prefix of the failed one are a prefix of all.
use Rattle.std.proofs.Common.{◌++◌, All, List, ℕ, ap, ◌∙◌, subst, sym, take}
use Rattle.std.proofs.lemmas.List.{take_more}
use Rattle.std.proofs.lemmas.List.Elements.{All-push}
use Rattle.counted_io.specs.Device.{AppendsPrefix, one_more}
use Rattle.counted_io.specs.Output.{Passes}
use Rattle.line_text.proofs.CallerLemmas.{pushes_cut, row_cut, row_more}
use Rattle.history_text.specs.declared.base_parts.BasePart.{BasePart}
use Rattle.history_text.specs.Parts.{HasPartFields, part_text}
use Rattle.history_text.proofs.base_parts.push_parts.Goals as goal

pub returns-in_err-push-clause-pushes : goal.returns-in_err-push-clause-pushes
returns-in_err-push-clause-pushes g c =
    let text = ap part_text c.part-item.is in
    pushes_cut _ _ _ _ _ _ _ c.from_residual.result c.from_residual.ensures.0
    (row_cut part_text c.args.parts.now c.loop-part.part-index c.part-item.result _ _ _ c.args.output.now _ c.loop-part-test.true c.loop-part.invariant.passes
    (subst (λ (l : List ℕ). AppendsPrefix (g.W.Sink.written c.loop-part.sink) (g.W.Sink.written c.push.new.sink) (c.loop-part.output ++ l)) text c.in_err-push.ensures.pushes.err))
    (c.in_err-push.ensures.pushes.count ∙ ap one_more c.loop-part.invariant.count)

pub loop-part-preserved : goal.loop-part-preserved
loop-part-preserved g c =
    let text = ap part_text c.part-item.is in
    record {
      passes = row_more part_text c.args.parts.now c.loop-part.part-index c.part-item.result _ _ _ c.args.output.now _ _ c.loop-part-test.true c.loop-part.invariant.passes
          (subst (λ (l : List ℕ). Passes (g.W.Sink.written c.loop-part.sink) (g.W.Sink.written c.push.new.sink) (c.loop-part.output ++ l) c.push.new.output) text c.in_ok-push.ensures.pushes.ok);
      count = c.in_ok-push.ensures.pushes.count ∙ c.loop-part.invariant.count;
      fields = subst (λ (l : List BasePart). All HasPartFields l) (sym (take_more c.args.parts.now c.loop-part.part-index c.part-item.result c.loop-part-test.true)) (All-push HasPartFields (take c.loop-part.part-index c.args.parts.now) _ c.loop-part.invariant.fields (subst HasPartFields c.part-item.is c.in_ok-push.ensures.fields));
    }
