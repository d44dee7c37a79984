-- The parts are pushed in turn.
use Rattle.std.proofs.Common.{ℕ, List, ◌++◌, subst}
use Rattle.counted_io.specs.Device.{AppendsPrefix}
use Rattle.counted_io.specs.Output.{Passes, Pushes}
use Rattle.counted_io.proofs.CallerLemmas.{prefix_piece}
use Rattle.line_text.proofs.CallerLemmas.{pushes_cut, pushes_then}
use Rattle.command_server.specs.InfoText.{refusals_of_info, unheard_of_info}
use Rattle.command_server.proofs.info_text.push_causes.Goals as goal

pub returns-in_err-push : goal.returns-in_err-push
returns-in_err-push g c =
    pushes_cut _ _ _ _ _ _ _ c.from_residual.result c.from_residual.ensures.0
    (prefix_piece _ _ c.args.output.now (unheard_of_info c.args.server.robots_faults) (refusals_of_info c.args.server)
    (subst (λ (l : List ℕ). AppendsPrefix (g.W.Sink.written c.args.sink.now) (g.W.Sink.written c.push.new.sink) (c.args.output.now ++ l)) c.unheard_pieces.ensures c.in_err-push.ensures.err))
    c.in_err-push.ensures.count

pub returns : goal.returns
returns g c =
    pushes_then _ _ _ _ _ _ _ _ _ (unheard_of_info c.args.server.robots_faults) (refusals_of_info c.args.server) c.push-2.result
    (subst (λ (l : List ℕ). Passes (g.W.Sink.written c.args.sink.now) (g.W.Sink.written c.push.new.sink) (c.args.output.now ++ l) c.push.new.output) c.unheard_pieces.ensures c.in_ok-push.ensures.ok)
    c.in_ok-push.ensures.count
    (subst (λ (l : List ℕ). Pushes (g.W.Sink.written c.push.new.sink) (g.W.Sink.written c.push-2.new.sink) (g.W.Sink.failures c.push.new.sink) (g.W.Sink.failures c.push-2.new.sink) c.push.new.output c.push-2.new.output l c.push-2.result) c.refusal_pieces.ensures c.push-2.ensures)
