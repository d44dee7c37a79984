-- A row is taken if it may come next.
use Rattle.std.proofs.Common.{◌≡◌, Err, ap, sym, subst, ◌∙◌, rules}
use Rattle.std.proofs.lemmas.Bool.{true≢false}
use Rattle.crawl_audit.specs.FirstBase.{TakesBaseLine}
use Rattle.crawl_audit.specs.OpenRows.{row_of}
use Rattle.crawl_audit.proofs.FirstLines.{row_refused, row_taken, row_unread}
use Rattle.crawl_audit.proofs.first_base.FirstBase.take_row.Goals as goal

pub returns-in_err-row : goal.returns-in_err-row
returns-in_err-row c = λ lines reads no_end.
    let fault : c.from_residual.result ≡ Err c.in_err-row.field-0.0 = search rules in
    subst (λ r. TakesBaseLine lines c.args.line.now r c.args.self.now c.args.open_state.now) (sym fault)
    (row_unread c.args.self.now c.args.open_state.now lines c.args.line.now reads c.args.self.now c.args.open_state.now c.in_err-row.field-0.0 no_end
    (λ same. c.in_err-row.ensures.none (ap Err same)))

pub returns-then-not-may_stand : goal.returns-then-not-may_stand
returns-then-not-may_stand c = λ lines reads no_end.
    row_refused c.args.self.now c.args.open_state.now lines c.args.line.now reads (row_of c.in_ok-row.row) no_end c.in_ok-row.ensures.row c.in_ok-row.ensures.spelled
    (λ may. true≢false (sym ((c.may_stand.ensures reads.base reads.says c.in_ok-row.ensures.row).1 may) ∙ c.if-not-may_stand.true))

pub returns : goal.returns
returns c = λ lines reads no_end.
    let row = row_of c.in_ok-row.row in
    let may = (c.may_stand.ensures reads.base reads.says c.in_ok-row.ensures.row).0 c.if-not-may_stand.false in
    row_taken c.args.self.now c.args.open_state.now lines c.args.line.now reads c.load.new.self c.load.new.open_state row c.in_ok-row.ensures.spelled may
    (c.in_ok-load.ensures reads.base reads.says c.in_ok-row.ensures.row may)
