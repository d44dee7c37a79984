-- A hop's place is pushed, and then its outcome.
use Rattle.std.proofs.Common.{ℕ, List, [], ◌∷◌, ◌++◌, subst}
use Rattle.counted_io.specs.Device.{AppendsPrefix}
use Rattle.counted_io.specs.Output.{Passes}
use Rattle.counted_io.proofs.CallerLemmas.{prefix_piece}
use Rattle.line_text.proofs.CallerLemmas.{pushes_cut, pushes_then}
use Rattle.crawl_shift.specs.TableText.{cause_text, outcome_text, place_text}
use Rattle.crawl_shift.proofs.hop_row.HopRow.push.Goals as goal

pub returns-in_err-push : goal.returns-in_err-push
returns-in_err-push g c =
    let row = c.args.self.now in
    pushes_cut _ _ _ _ _ _ _ c.from_residual.result c.from_residual.ensures.0
    (prefix_piece _ _ c.args.output.now (place_text row.job row.hop row.token.now row.url.now)
    (outcome_text row.end.now row.milliseconds ++ (cause_text row.end.now row.failure row.closed_by ++ 10 ∷ []))
    (subst (λ (l : List ℕ). AppendsPrefix (g.W.Sink.written c.args.sink.now) (g.W.Sink.written c.push.new.sink) (c.args.output.now ++ l)) c.place.ensures c.in_err-push.ensures.err))
    c.in_err-push.ensures.count

pub returns : goal.returns
returns g c =
    pushes_then _ _ _ _ _ _ _ _ _ _ _ c.push_outcome.result
    (subst (λ (l : List ℕ). Passes (g.W.Sink.written c.args.sink.now) (g.W.Sink.written c.push.new.sink) (c.args.output.now ++ l) c.push.new.output) c.place.ensures c.in_ok-push.ensures.ok)
    c.in_ok-push.ensures.count
    c.push_outcome.ensures
