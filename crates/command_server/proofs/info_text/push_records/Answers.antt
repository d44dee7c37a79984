-- The parts are pushed in turn.
use Rattle.std.proofs.Common.{ℕ, List, ◌++◌, subst}
use Rattle.counted_io.specs.Device.{AppendsPrefix}
use Rattle.counted_io.specs.Output.{Passes}
use Rattle.counted_io.proofs.CallerLemmas.{prefix_piece}
use Rattle.line_text.proofs.CallerLemmas.{pushes_cut, pushes_then}
use Rattle.command_server.specs.InfoText.{causes_of_info, journal_of_info}
use Rattle.command_server.proofs.info_text.push_records.Goals as goal

pub returns-in_err-push : goal.returns-in_err-push
returns-in_err-push g c =
    pushes_cut _ _ _ _ _ _ _ c.from_residual.result c.from_residual.ensures.0
    (prefix_piece _ _ c.args.output.now (journal_of_info c.args.server.journal) (causes_of_info c.args.server)
    (subst (λ (l : List ℕ). AppendsPrefix (g.W.Sink.written c.args.sink.now) (g.W.Sink.written c.push.new.sink) (c.args.output.now ++ l)) c.journal_pieces.ensures c.in_err-push.ensures.err))
    c.in_err-push.ensures.count

pub returns : goal.returns
returns g c =
    pushes_then _ _ _ _ _ _ _ _ _ (journal_of_info c.args.server.journal) (causes_of_info c.args.server) c.push_causes.result
    (subst (λ (l : List ℕ). Passes (g.W.Sink.written c.args.sink.now) (g.W.Sink.written c.push.new.sink) (c.args.output.now ++ l) c.push.new.output) c.journal_pieces.ensures c.in_ok-push.ensures.ok)
    c.in_ok-push.ensures.count
    c.push_causes.ensures
