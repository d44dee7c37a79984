-- The lines of the hops, then the body.
use Rattle.std.proofs.Common.{◌≡◌}
use Rattle.std.specs.Prelude.{codes}
use Rattle.counted_io.proofs.CallerLemmas.{prefix_piece}
use Rattle.line_text.proofs.CallerLemmas.{pushes_cut, pushes_then}
use Rattle.command_lines.specs.HopText.{hops_text}
use Rattle.command_server.specs.ClientReplyText.{body_text}
use Rattle.command_server.proofs.client_reply.push_fetched.Goals as goal

pub returns-in_err-push_hops : goal.returns-in_err-push_hops
returns-in_err-push_hops g c =
    let hops : c.as_slice.result.now ≡ c.args.outcome.now.hops.items = c.as_slice.ensures.value in
    rw (← hops) (pushes_cut _ _ _ _ _ _ _ c.from_residual.result c.from_residual.ensures.0
    (prefix_piece _ _ c.args.output.now (hops_text (codes "HOP") 1 c.as_slice.result.now) (body_text c.args.outcome.now.body.items) c.in_err-push_hops.ensures.err)
    c.in_err-push_hops.ensures.count)

pub returns : goal.returns
returns g c =
    let hops : c.as_slice.result.now ≡ c.args.outcome.now.hops.items = c.as_slice.ensures.value in
    let body : c.as_slice-2.result.now ≡ c.args.outcome.now.body.items = c.as_slice-2.ensures.value in
    rw (← hops, ← body)
    (pushes_then _ _ _ _ _ _ _ _ _ _ _ c.push_body.result c.in_ok-push_hops.ensures.ok c.in_ok-push_hops.ensures.count c.push_body.ensures)
