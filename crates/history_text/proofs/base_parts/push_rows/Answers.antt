-- The lines before a fault and a prefix of the failed one are a prefix of all.
use Rattle.std.proofs.Common.{◌++◌, All, List, ℕ, ap, ◌∙◌, subst, sym, take}
use Rattle.std.proofs.lemmas.List.{take_more}
use Rattle.std.proofs.lemmas.List.Elements.{All-push}
use Rattle.counted_io.specs.Device.{AppendsPrefix, one_more}
use Rattle.counted_io.specs.Output.{Passes}
use Rattle.line_text.proofs.CallerLemmas.{pushes_cut, row_cut, row_more}
use Rattle.history_text.specs.SpellBase.{ended}
use Rattle.history_text.proofs.base_parts.push_rows.Goals as goal

pub returns-in_err-push_line-clause-pushes : goal.returns-in_err-push_line-clause-pushes
returns-in_err-push_line-clause-pushes g c =
    let line = ap ended (c.pieces.ensures.text ∙ ap (g.T.TextLine.line c.args.letter.now) c.row-item.is) in
    pushes_cut _ _ _ _ _ _ _ c.from_residual.result c.from_residual.ensures.0
    (row_cut (λ row. ended (g.T.TextLine.line c.args.letter.now row)) c.args.rows.now c.loop-row.row-index c.row-item.result _ _ _ c.args.output.now _ c.loop-row-test.true c.loop-row.invariant.passes
    (subst (λ (l : List ℕ). AppendsPrefix (g.W.Sink.written c.loop-row.sink) (g.W.Sink.written c.push_line.new.sink) (c.loop-row.output ++ l)) line c.in_err-push_line.ensures.err))
    (c.in_err-push_line.ensures.count ∙ ap one_more c.loop-row.invariant.count)

pub loop-row-preserved : goal.loop-row-preserved
loop-row-preserved g c =
    let line = ap ended (c.pieces.ensures.text ∙ ap (g.T.TextLine.line c.args.letter.now) c.row-item.is) in
    record {
      passes = row_more (λ row. ended (g.T.TextLine.line c.args.letter.now row)) c.args.rows.now c.loop-row.row-index c.row-item.result _ _ _ c.args.output.now _ _ c.loop-row-test.true c.loop-row.invariant.passes
          (subst (λ (l : List ℕ). Passes (g.W.Sink.written c.loop-row.sink) (g.W.Sink.written c.push_line.new.sink) (c.loop-row.output ++ l) c.push_line.new.output) line c.in_ok-push_line.ensures.ok);
      count = c.in_ok-push_line.ensures.count ∙ c.loop-row.invariant.count;
      fields = subst (λ l. All g.T.TextLine.has_fields l) (sym (take_more c.args.rows.now c.loop-row.row-index c.row-item.result c.loop-row-test.true)) (All-push g.T.TextLine.has_fields (take c.loop-row.row-index c.args.rows.now) _ c.loop-row.invariant.fields (subst g.T.TextLine.has_fields c.row-item.is c.pieces.ensures.fields));
    }
