-- The answer, then what closed its site.
use Rattle.std.proofs.Common.{ℕ, List, ◌++◌, codes, subst}
use Rattle.counted_io.specs.Device.{AppendsPrefix}
use Rattle.counted_io.specs.Output.{Passes, Pushes}
use Rattle.counted_io.proofs.CallerLemmas.{prefix_piece}
use Rattle.history_text.specs.SpellBase.{answer_words}
use Rattle.line_text.proofs.CallerLemmas.{pushes_cut, pushes_then}
use Rattle.fetchers.specs.CauseText.{closing_phrase}
use Rattle.command_server.proofs.why_reply.push_closed.Goals as goal

pub returns-in_err-push : goal.returns-in_err-push
returns-in_err-push g c =
    pushes_cut _ _ _ _ _ _ _ c.from_residual.result c.from_residual.ensures.0
    (prefix_piece _ _ c.args.output.now (codes "WHY " ++ answer_words c.args.answer.now) (codes " " ++ (closing_phrase c.args.by ++ codes "\n"))
    (subst (λ (l : List ℕ). AppendsPrefix (g.W.Sink.written c.args.sink.now) (g.W.Sink.written c.push.new.sink) (c.args.output.now ++ l)) c.standing_pieces.ensures.text c.in_err-push.ensures.err))
    c.in_err-push.ensures.count

pub returns : goal.returns
returns g c =
    pushes_then _ _ _ _ _ _ _ _ _ (codes "WHY " ++ answer_words c.args.answer.now) (codes " " ++ (closing_phrase c.args.by ++ codes "\n")) c.push-2.result
    (subst (λ (l : List ℕ). Passes (g.W.Sink.written c.args.sink.now) (g.W.Sink.written c.push.new.sink) (c.args.output.now ++ l) c.push.new.output) c.standing_pieces.ensures.text c.in_ok-push.ensures.ok)
    c.in_ok-push.ensures.count
    (subst (λ (l : List ℕ). Pushes (g.W.Sink.written c.push.new.sink) (g.W.Sink.written c.push-2.new.sink) (g.W.Sink.failures c.push.new.sink) (g.W.Sink.failures c.push-2.new.sink) c.push.new.output c.push-2.new.output l c.push-2.result) c.cause_pieces.ensures c.push-2.ensures)
