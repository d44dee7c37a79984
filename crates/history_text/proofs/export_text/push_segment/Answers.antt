-- The lines of the base, then those of the entries.
use Rattle.std.proofs.Common.{ℕ, List, ◌++◌, ◌∙◌, subst, sym}
use Rattle.counted_io.specs.Device.{AppendsPrefix}
use Rattle.counted_io.specs.Output.{Pushes}
use Rattle.counted_io.proofs.CallerLemmas.{prefix_piece}
use Rattle.line_text.proofs.CallerLemmas.{pushes_cut, pushes_then}
use Rattle.history_text.specs.declared.version.Version.TheVariants.{Two}
use Rattle.history_text.specs.Spell.{entry_lines}
use Rattle.history_text.specs.SpellBase.{base_text}
use Rattle.history_text.proofs.Exporting.{first_segment, later_segment}
use Rattle.history_text.proofs.export_text.push_segment.Goals as goal

pub returns-then-entries-eq0-clause-pushes : goal.returns-then-entries-eq0-clause-pushes
returns-then-entries-eq0-clause-pushes g c =
    subst (λ (text : List ℕ). Pushes (g.W.Sink.written c.args.sink.now) (g.W.Sink.written c.push_history.new.sink) (g.W.Sink.failures c.args.sink.now) (g.W.Sink.failures c.push_history.new.sink) c.args.output.now c.push_history.new.output text c.push_history.result)
    (sym (first_segment c.args.base.now c.args.entries.now (sym c.entries.ensures ∙ c.if-entries-eq0.true))) c.push_history.ensures.pushes

pub returns-in_err-push_base-clause-pushes : goal.returns-in_err-push_base-clause-pushes
returns-in_err-push_base-clause-pushes g c =
    let later = later_segment c.args.base.now c.args.entries.now (λ zero. c.if-entries-eq0.false (c.entries.ensures ∙ zero)) in
    pushes_cut _ _ _ _ _ _ _ c.from_residual.result c.from_residual.ensures.0
    (subst (λ (text : List ℕ). AppendsPrefix (g.W.Sink.written c.args.sink.now) (g.W.Sink.written c.push_base.new.sink) (c.args.output.now ++ text)) (sym later)
    (prefix_piece _ _ c.args.output.now (base_text c.args.base.now) (entry_lines Two c.args.entries.now) c.in_err-push_base.ensures.pushes.err))
    c.in_err-push_base.ensures.pushes.count

pub returns-clause-pushes : goal.returns-clause-pushes
returns-clause-pushes g c =
    let later = later_segment c.args.base.now c.args.entries.now (λ zero. c.if-entries-eq0.false (c.entries.ensures ∙ zero)) in
    subst (λ (text : List ℕ). Pushes (g.W.Sink.written c.args.sink.now) (g.W.Sink.written c.push_rows.new.sink) (g.W.Sink.failures c.args.sink.now) (g.W.Sink.failures c.push_rows.new.sink) c.args.output.now c.push_rows.new.output text c.push_rows.result)
    (sym later)
    (pushes_then _ _ _ _ _ _ _ _ _ _ _ c.push_rows.result c.in_ok-push_base.ensures.pushes.ok c.in_ok-push_base.ensures.pushes.count c.push_rows.ensures.pushes)
