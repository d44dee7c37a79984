-- The line of a base's numbers is read back as them, so only other lines are refused.
use Rattle.std.proofs.Common.{sym, subst, ◌∙◌, rules}
use Rattle.std.specs.Str.{IsUtf8}
use Rattle.std.proofs.lemmas.Bool.{true≢false}
use Rattle.crawl_audit.proofs.RowReading.{utf8_numbers}
use Rattle.crawl_audit.proofs.RowsRead.{none_numbers, other_numbers}
use Rattle.crawl_audit.proofs.read_base.read_numbers.Goals as goal

pub returns-in_default-clause-none : goal.returns-in_default-clause-none
returns-in_default-clause-none c = λ _ b is same. c.in_default.ensures.cases.0 (subst IsUtf8 (sym same) (utf8_numbers b is))

pub returns-in_default-numbers_named-clause-none : goal.returns-in_default-numbers_named-clause-none
returns-in_default-numbers_named-clause-none c = λ _ b is same. none_numbers c.args.line.now c.in-Ok.text.now c.numbers_named.result b c.in-Ok.ensures.cases.0 c.numbers_named.ensures (search rules) is same

pub returns-else-is-clause-none : goal.returns-else-is-clause-none
returns-else-is-clause-none c = λ _ b is same.
    other_numbers c.args.line.now c.in-Ok.text.now c.numbers_named.result c.in-Some.numbers b c.in-Ok.ensures.cases.0 c.numbers_named.ensures c.in-Some.is
    (λ its_own. true≢false (sym (c.is.ensures.1 (its_own ∙ sym c.counts.ensures.text)) ∙ c.if-is.false)) is same
