-- The permit behind this letter was read, so the row of such a line is read back.
use Rattle.std.proofs.Common.{◌≡◌, ◌∷◌, Err, codes, rules, subst, sym}
use Rattle.std.specs.Prelude.{Result}
use Rattle.line_text.specs.Words.{words_left}
use Rattle.crawl_audit.specs.declared.base_row.BaseRow.{BaseRow}
use Rattle.crawl_audit.specs.declared.unread_line.UnreadLine.{UnreadLine}
use Rattle.crawl_audit.specs.Reading.{ReadsRow}
use Rattle.crawl_audit.proofs.RowsRead.{unspent_is, unspent_refused}
use Rattle.crawl_audit.proofs.read_base.read_unspent.Goals as goal

pub returns-in_err-number : goal.returns-in_err-number
returns-in_err-number c =
    let same : c.from_residual.result ≡ Err c.in_err-number.field-0.0 = search rules in
    subst (λ (r : Result BaseRow UnreadLine). ReadsRow (codes "U" ∷ words_left c.args.words) r) (sym same) (unspent_refused (words_left c.args.words) c.in_err-number.field-0.0 c.in_err-number.ensures)

pub returns : goal.returns
returns c = unspent_is (words_left c.args.words) c.in_ok-number.number c.in_ok-number.fetch c.in_ok-number.ensures
