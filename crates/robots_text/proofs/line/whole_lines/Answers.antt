-- An octet after the last line end goes; after a last line end, all is kept.
use Rattle.std.proofs.Common.{sym, ap, ◌∙◌, arith}
use Rattle.robots_text.specs.Lines.{whole_lines}
use Rattle.robots_text.proofs.Ends.{whole_end, whole_plain}
use Rattle.robots_text.proofs.line.whole_lines.Goals as goal

pub returns-then-is_line_end-clause-value : goal.returns-then-is_line_end-clause-value
returns-then-is_line_end-clause-value c =
    let split = c.in-Some.ensures.cases.0 in
    let end = sym c.is_line_end.ensures ∙ c.if-is_line_end.true in
    split ∙ sym (whole_end c.in-Some.before.now c.in-Some.last.now end) ∙ ap whole_lines (sym split) ∙ c.loop-last.invariant.0

pub loop-last-preserved : goal.loop-last-preserved
loop-last-preserved c =
    let split = c.in-Some.ensures.cases.0 in
    let plain = sym c.is_line_end.ensures ∙ c.if-is_line_end.false in (
      sym (whole_plain c.in-Some.before.now c.in-Some.last.now plain) ∙ ap whole_lines (sym split) ∙ c.loop-last.invariant.0,
      omega (arith, c.in-Some.ensures.cases.1, c.loop-last.invariant.1),
    )
