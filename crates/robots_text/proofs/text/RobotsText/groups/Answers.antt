-- There are at most as many records as octets, which name each part of the text once.
use Rattle.std.proofs.Common.{◌≤◌, true, false, All, List, length, sym, ap, ◌∙◌, subst, arith}
use Rattle.robots_text.specs.Grouped.{Grouped, IsWithin, grouped_from, values_octets}
use Rattle.robots_text.specs.Lines.{lines_from, text_limit}
use Rattle.robots_text.proofs.Bounds.{few_grouped, few_lines, small_values, within_text}
use Rattle.robots_text.proofs.text.RobotsText.groups.Goals as goal

pub returns-clause-within : goal.returns-clause-within
returns-clause-within c =
    let text = c.unmarked.result.now in
    let fits : length text ≤ text_limit = omega (arith, c.unmarked.ensures.within, c.as_slice.ensures.len, c.self.invariant) in
    subst (All (IsWithin text_limit)) (sym (c.of-2.ensures ∙ ap (grouped_from 0 true) c.of.ensures)) (within_text text_limit text fits)

pub returns-clause-few : goal.returns-clause-few
returns-clause-few c =
    subst (λ (lines : List Grouped). length lines ≤ text_limit) (sym (c.of-2.ensures ∙ ap (grouped_from 0 true) c.of.ensures))
    (omega (arith, few_grouped c.unmarked.result.now, c.unmarked.ensures.within, c.as_slice.ensures.len, c.self.invariant))

pub returns-clause-small : goal.returns-clause-small
returns-clause-small c =
    let text = c.unmarked.result.now in
    subst (λ (lines : List Grouped). values_octets lines ≤ text_limit) (sym (c.of-2.ensures ∙ ap (grouped_from 0 true) c.of.ensures))
    (omega (arith, small_values 0 true 1 (lines_from false text), (few_lines false text).1, c.unmarked.ensures.within, c.as_slice.ensures.len, c.self.invariant))
