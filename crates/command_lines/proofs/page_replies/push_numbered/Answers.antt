-- What is in front, then the number and what is behind it.
use Rattle.std.proofs.Common.{◌≡◌, ◌++◌, decimal}
use Rattle.counted_io.proofs.CallerLemmas.{prefix_piece}
use Rattle.line_text.proofs.CallerLemmas.{pushes_cut, pushes_then}
use Rattle.command_lines.proofs.page_replies.push_numbered.Goals as goal

pub returns-in_err-push : goal.returns-in_err-push
returns-in_err-push g c =
    let front : c.as_bytes.result.now ≡ c.args.front.now = c.as_bytes.ensures.value in
    rw (← front) (pushes_cut _ _ _ _ _ _ _ c.from_residual.result c.from_residual.ensures.0
    (prefix_piece _ _ c.args.output.now c.as_bytes.result.now (decimal c.args.number ++ c.args.behind.now) c.in_err-push.ensures.err)
    c.in_err-push.ensures.count)

pub returns : goal.returns
returns g c =
    let front : c.as_bytes.result.now ≡ c.args.front.now = c.as_bytes.ensures.value in
    rw (← front) (pushes_then _ _ _ _ _ _ _ _ _ _ _ c.push_number.result c.in_ok-push.ensures.ok c.in_ok-push.ensures.count c.push_number.ensures)
