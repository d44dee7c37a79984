-- The line of a thing is read back as that thing, so only other lines are refused.
use Rattle.std.proofs.Common.{◌≡◌, Err, sym, ap, subst, ◌∙◌}
use Rattle.std.specs.Str.{IsUtf8}
use Rattle.std.proofs.lemmas.Bool.{true≢false}
use Rattle.std.proofs.lemmas.Result.{err_from_is_err_and}
use Rattle.line_text.specs.Words.{words_of}
use Rattle.crawl_audit.specs.declared.unread_line.UnreadLine.{UnreadLine}
use Rattle.crawl_audit.specs.declared.unread_line.UnreadLine.TheVariants.{NotOne}
use Rattle.crawl_audit.specs.OpenRows.{row_of}
use Rattle.crawl_audit.specs.Reading.{ReadsRow}
use Rattle.crawl_audit.proofs.RowReading.{utf8_row}
use Rattle.crawl_audit.proofs.RowsRead.{same_row}
use Rattle.crawl_audit.proofs.read_base.read_row.Goals as goal

pub returns-in_default-clause-none : goal.returns-in_default-clause-none
returns-in_default-clause-none c = λ _ r is same. c.in_default.ensures.cases.0 (subst IsUtf8 (sym same) (utf8_row r is))

pub returns-in_err-found-clause-none : goal.returns-in_err-found-clause-none
returns-in_err-found-clause-none c = λ none r is same.
    let p = err_from_is_err_and c.from_residual.result c.from_residual.ensures.1 in
    let which : c.in_err-found.field-0.0 ≡ NotOne = cc (p.1, p.2, none) in
    let reads = subst (λ (u : UnreadLine). ReadsRow (words_of c.in-Ok.text.now) (Err u)) which c.in_err-found.ensures in
    reads r is (ap words_of (c.in-Ok.ensures.cases.0 ∙ same))

pub returns-else-is_spelled-clause-none : goal.returns-else-is_spelled-clause-none
returns-else-is_spelled-clause-none c = λ _ r is same.
    same_row c.args.line.now (row_of c.in_ok-found.found) r
    (c.in_ok-found.ensures r is (ap words_of (c.in-Ok.ensures.cases.0 ∙ same)))
    (λ is_one. true≢false (sym (c.is_spelled.ensures.spelled.1 is_one) ∙ c.if-is_spelled.false)) is same
