-- The line of numbers is taken if a base can have them.
use Rattle.std.proofs.Common.{refl, sym, subst, ◌∙◌}
use Rattle.std.proofs.lemmas.Bool.{true≢false}
use Rattle.crawl_audit.specs.declared.open_state.OpenState.{OpenState}
use Rattle.crawl_audit.specs.declared.first_base.FirstBase.{FirstBase}
use Rattle.crawl_audit.specs.declared.first_base.LastLine.TheVariants as lasts
use Rattle.std.specs.Prelude.{Some, Ok, false}
use Rattle.crawl_audit.specs.FirstBase.{TakesBaseLine}
use Rattle.crawl_audit.proofs.FirstLines.{numbers_refused, numbers_taken}
use Rattle.crawl_audit.proofs.first_base.FirstBase.take_numbers.Goals as goal

pub returns-then-not-may_be_of_base : goal.returns-then-not-may_be_of_base
returns-then-not-may_be_of_base c = λ lines reads.
    numbers_refused c.args.self.now c.args.open_state.now lines c.args.line.now reads c.in_ok-numbers.numbers c.in_ok-numbers.ensures.spelled c.in_ok-numbers.ensures.numbers
    (λ may. true≢false (sym (c.may_be_of_base.ensures.1 may) ∙ c.if-not-may_be_of_base.true))

pub returns : goal.returns
returns c = λ lines reads.
    let may = c.may_be_of_base.ensures.0 c.if-not-may_be_of_base.false in
    let first : FirstBase = record { last = Some lasts.Numbers; turns = c.args.self.now.turns } in
    subst (λ (l : OpenState). TakesBaseLine lines c.args.line.now (Ok false) first l) (sym c.load_numbers.ensures)
    (numbers_taken c.args.self.now c.args.open_state.now lines c.args.line.now reads first c.in_ok-numbers.numbers c.in_ok-numbers.ensures.spelled c.in_ok-numbers.ensures.numbers may.0 may.1 refl (λ turn. refl))
