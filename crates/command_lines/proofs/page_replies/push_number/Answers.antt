-- The number, then what is behind it.
use Rattle.std.proofs.Common.{◌≡◌, ◌∙◌, decimal}
use Rattle.counted_io.proofs.CallerLemmas.{prefix_piece}
use Rattle.line_text.proofs.CallerLemmas.{pushes_cut, pushes_then}
use Rattle.command_lines.proofs.page_replies.push_number.Goals as goal

pub returns-in_err-push : goal.returns-in_err-push
returns-in_err-push g c =
    let digits : c.as_bytes.result.now ≡ decimal c.args.number = c.as_bytes.ensures.value ∙ c.format.ensures.text in
    rw (← digits) (pushes_cut _ _ _ _ _ _ _ c.from_residual.result c.from_residual.ensures.0
    (prefix_piece _ _ c.args.output.now c.as_bytes.result.now c.args.behind.now c.in_err-push.ensures.err)
    c.in_err-push.ensures.count)

pub returns : goal.returns
returns g c =
    let digits : c.as_bytes.result.now ≡ decimal c.args.number = c.as_bytes.ensures.value ∙ c.format.ensures.text in
    let behind : c.as_bytes-2.result.now ≡ c.args.behind.now = c.as_bytes-2.ensures.value in
    rw (← digits, ← behind) (pushes_then _ _ _ _ _ _ _ _ _ _ _ c.push-2.result c.in_ok-push.ensures.ok c.in_ok-push.ensures.count c.push-2.ensures.pushes)
