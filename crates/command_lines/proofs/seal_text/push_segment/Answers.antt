-- The line with the number, then the text of the segment.
use Rattle.std.proofs.Common.{◌<◌, ℕ, List, ◌++◌, ap, arith, length, sym, subst, ◌∙◌}
use Rattle.std.proofs.lemmas.Bool.{eqb-false}
use Rattle.counted_io.specs.Device.{AppendsPrefix}
use Rattle.counted_io.specs.Output.{Passes}
use Rattle.counted_io.proofs.CallerLemmas.{prefix_piece}
use Rattle.history_text.specs.SpellBase.{spell_segment}
use Rattle.line_text.proofs.CallerLemmas.{pushes_cut, pushes_then}
use Rattle.command_lines.specs.SealText.{sealed_line}
use Rattle.command_lines.proofs.SealTexts.{some_handed}
use Rattle.command_lines.proofs.seal_text.push_segment.Goals as goal

pub returns-in_err-push : goal.returns-in_err-push
returns-in_err-push g c =
    let some : 0 < length c.args.segment.now.entries = omega (arith, eqb-false (length c.entries.result.now) 0 (sym c.is_empty.ensures ∙ c.if-is_empty.false), ap length c.entries.ensures.value) in
    let text = some_handed c.args.segment.now.entries c.args.segment.now some ∙ ap (λ (n : ℕ). sealed_line n ++ spell_segment c.args.segment.now) (sym c.line_count.ensures) in
    rw text (pushes_cut _ _ _ _ _ _ _ c.from_residual.result c.from_residual.ensures.0
    (prefix_piece _ _ c.args.output.now (sealed_line c.line_count.result) (spell_segment c.args.segment.now)
    (subst (λ (l : List ℕ). AppendsPrefix (g.W.Sink.written c.args.sink.now) (g.W.Sink.written c.push-2.new.sink) (c.args.output.now ++ l)) c.sealed_pieces-2.ensures c.in_err-push.ensures.err))
    c.in_err-push.ensures.count)

pub returns : goal.returns
returns g c =
    let some : 0 < length c.args.segment.now.entries = omega (arith, eqb-false (length c.entries.result.now) 0 (sym c.is_empty.ensures ∙ c.if-is_empty.false), ap length c.entries.ensures.value) in
    let text = some_handed c.args.segment.now.entries c.args.segment.now some ∙ ap (λ (n : ℕ). sealed_line n ++ spell_segment c.args.segment.now) (sym c.line_count.ensures) in
    rw text (pushes_then _ _ _ _ _ _ _ _ _ _ _ c.push_segment_text.result
    (subst (λ (l : List ℕ). Passes (g.W.Sink.written c.args.sink.now) (g.W.Sink.written c.push-2.new.sink) (c.args.output.now ++ l) c.push-2.new.output) c.sealed_pieces-2.ensures c.in_ok-push.ensures.ok)
    c.in_ok-push.ensures.count c.push_segment_text.ensures)
