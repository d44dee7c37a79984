-- The walk's test is whether a line speaks to the token.
use Rattle.std.proofs.Common.{None, Bool, sym, ◌∙◌, subst}
use Rattle.robots_text.specs.Grouped.{grouped_left, grouped_records}
use Rattle.robots_text.specs.Groups.{AreRulesFor, speaks_to}
use Rattle.robots_text.specs.Records.{Record, numbered_records}
use Rattle.robots_text.specs.Walk.{rules_from, speaks}
use Rattle.robots_text.proofs.Walks.{walk_is}
use Rattle.robots_text.proofs.text.RobotsText.rules_for.Goals as goal

pub returns : goal.returns
returns c =
    let text = c.args.self.now in
    let word = c.args.token.now in
    let is_word = c.as_bytes.ensures.value ∙ c.text.ensures.value in
    let are_lines = c.records.ensures.records in
    subst (AreRulesFor (numbered_records text) word) (sym (c.new.ensures (grouped_left c.groups.result)))
    (subst (λ lines. AreRulesFor (numbered_records text) word (rules_from (speaks c.whom_for-whom.result) None lines)) (sym c.groups.ensures.records)
    (subst (λ (test : Record → Bool). AreRulesFor (numbered_records text) word (rules_from test None (grouped_records text)))
    (λ i kind. sym (c.whom_for-whom.ensures kind ∙ (λ j. speaks_to (are_lines j) (is_word j) kind)) i) (walk_is text word)))
