-- The pieces, then the line end.
use Rattle.std.proofs.Common.{ℕ, List, [], ◌∷◌, ◌++◌, codes, subst}
use Rattle.counted_io.specs.Device.{AppendsPrefix}
use Rattle.counted_io.specs.Lines.{line_feed}
use Rattle.counted_io.specs.Output.{Passes}
use Rattle.counted_io.proofs.CallerLemmas.{prefix_piece}
use Rattle.history_text.specs.SpellBase.{answer_words}
use Rattle.line_text.proofs.CallerLemmas.{pushes_cut, pushes_then}
use Rattle.command_lines.proofs.why_text.push_explained.Goals as goal

pub returns-in_err-push : goal.returns-in_err-push
returns-in_err-push g c =
    pushes_cut _ _ _ _ _ _ _ c.from_residual.result c.from_residual.ensures.0
    (prefix_piece _ _ c.args.output.now (codes "WHY " ++ answer_words c.args.answer.now) (line_feed ∷ [])
    (subst (λ (l : List ℕ). AppendsPrefix (g.W.Sink.written c.args.sink.now) (g.W.Sink.written c.push.new.sink) (c.args.output.now ++ l)) c.standing_pieces.ensures.text c.in_err-push.ensures.err))
    c.in_err-push.ensures.count

pub returns : goal.returns
returns g c =
    pushes_then _ _ _ _ _ _ _ _ _ (codes "WHY " ++ answer_words c.args.answer.now) (line_feed ∷ []) c.push-2.result
    (subst (λ (l : List ℕ). Passes (g.W.Sink.written c.args.sink.now) (g.W.Sink.written c.push.new.sink) (c.args.output.now ++ l) c.push.new.output) c.standing_pieces.ensures.text c.in_ok-push.ensures.ok)
    c.in_ok-push.ensures.count c.push-2.ensures.pushes
