-- A body's prefix is kept.
use Rattle.std.proofs.Common.{List, ℕ, length, take, ap, ◌∙◌}
use Rattle.robots_text.specs.Lines.{kept}
use Rattle.robots_text.proofs.KeptLaws.{kept_taken}
use Rattle.robots_text.proofs.text.RobotsText.of.Goals as goal

pub returns : goal.returns
returns c =
    let body = c.args.body.items in
    let kept_is = c.kept.ensures.value ∙ ap kept c.as_slice.ensures.value in
    c.shrink_to_fit.ensures.items ∙ (c.truncate.ensures.items ∙ (ap (λ (front : List ℕ). take (length front) body) kept_is ∙ kept_taken body))
