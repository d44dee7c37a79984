-- What holds before and after the place holds of all forms.
use Rattle.std.proofs.Common.{◌≡◌, ◌⊎◌, ◌∙◌, ◌-◌, ◌<◌, ◌≤◌, inl, inr, ap, arith, length, sym}
use Rattle.std.proofs.lemmas.Bool.{leb-false, ltb-true}
use Rattle.std.proofs.lemmas.List.{length-map}
use Rattle.robots_verdict.specs.Rewritten.{form_at, form_seen, Forms}
use Rattle.robots_verdict.proofs.Forms.{none_at_gap}
use Rattle.robots_verdict.proofs.rewritten.Rewritten.is_gap.Goals.{then-place-gt0, else-place-gt0}
use Rattle.robots_verdict.proofs.rewritten.Rewritten.is_gap.Goals as goal

pub returns-then-place-len-2 : goal.returns-then-place-len-2
returns-then-place-len-2 c =
    let seen = c.args.self.now.of_lines in
    let kept = c.self.inside.forms in
    let many : length seen ≡ length kept.items = sym (ap (λ (f : Forms). length f.of_lines) c.self.view_is) ∙ length-map kept.items (form_seen c.self.inside.octets.items) in
    let within : c.args.place ≤ length seen = omega (arith, c.if-place-len.false, c.len.ensures, kept.ok.0, many) in
    let before : (c.args.place ≡ 0) ⊎ ((form_at seen (c.args.place - 1)).line < c.args.line) = elim c.if-place-gt0.branch [
      | then-place-gt0 w ↦ inr (let low = leb-false c.args.line w.line.result (sym w.value-is ∙ c.if-line.false) in omega (arith, low, w.line.ensures))
      | else-place-gt0 w ↦ inl (omega (arith, w.if-place-gt0.false))
    ] in
    let end : c.args.place ≡ length seen = omega (arith, c.if-place-len-2.true, c.len-2.ensures, kept.ok.0, many) in
    λ is. none_at_gap seen c.args.line c.args.place c.requires within before (inl end)

pub returns-else-place-len-2 : goal.returns-else-place-len-2
returns-else-place-len-2 c =
    let seen = c.args.self.now.of_lines in
    let kept = c.self.inside.forms in
    let many : length seen ≡ length kept.items = sym (ap (λ (f : Forms). length f.of_lines) c.self.view_is) ∙ length-map kept.items (form_seen c.self.inside.octets.items) in
    let within : c.args.place ≤ length seen = omega (arith, c.if-place-len.false, c.len.ensures, kept.ok.0, many) in
    let before : (c.args.place ≡ 0) ⊎ ((form_at seen (c.args.place - 1)).line < c.args.line) = elim c.if-place-gt0.branch [
      | then-place-gt0 w ↦ inr (let low = leb-false c.args.line w.line.result (sym w.value-is ∙ c.if-line.false) in omega (arith, low, w.line.ensures))
      | else-place-gt0 w ↦ inl (omega (arith, w.if-place-gt0.false))
    ] in
    λ is. none_at_gap seen c.args.line c.args.place c.requires within before (inr (let high = ltb-true c.args.line c.line-else-place-len-2.result is in omega (arith, high, c.line-else-place-len-2.ensures)))
