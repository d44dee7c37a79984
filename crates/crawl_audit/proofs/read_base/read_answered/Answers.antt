-- The words and the answer behind this letter are read back as their row.
use Rattle.std.proofs.Common.{◌≡◌, ℕ, List, ◌∷◌, Ok, Err, codes, rules, subst, sym}
use Rattle.std.specs.Prelude.{Result}
use Rattle.line_text.specs.Words.{words_left}
use Rattle.crawl_audit.specs.declared.base_row.BaseRow.{BaseRow}
use Rattle.crawl_audit.specs.declared.unread_line.UnreadLine.{UnreadLine}
use Rattle.history_text.specs.declared.version.Version.TheVariants.{Two}
use Rattle.crawl_audit.specs.Reading.{ReadsAnswer, ReadsRow}
use Rattle.crawl_audit.proofs.EntriesRead.{behind_three}
use Rattle.crawl_audit.proofs.RowsRead.{row_read, standing_is, standing_refused}
use Rattle.crawl_audit.proofs.read_base.read_answered.Goals as goal

pub returns-in_err-authority : goal.returns-in_err-authority
returns-in_err-authority c = row_read (codes "H") (words_left c.args.words) _ (search rules)

pub returns-in_err-next_number : goal.returns-in_err-next_number
returns-in_err-next_number c = row_read (codes "H") (words_left c.args.words) _ (search rules)

pub returns-in_err-begun : goal.returns-in_err-begun
returns-in_err-begun c = row_read (codes "H") (words_left c.args.words) _ (search rules)

pub returns-in_err-answer : goal.returns-in_err-answer
returns-in_err-answer c =
    let answer = subst (λ (ws : List (List ℕ)). ReadsAnswer Two ws (Err c.in_err-answer.field-0.0)) words_are c.in_err-answer.ensures in
    let same : c.from_residual-in_err-answer.result ≡ Err c.in_err-answer.field-0.0 = search rules in
    subst (λ (r : Result BaseRow UnreadLine). ReadsRow (codes "H" ∷ words_left c.args.words) r) (sym same) (standing_refused (words_left c.args.words) c.in_err-answer.field-0.0 answer)
  where
    words_are : words_left c.next_number-2.new.words ≡ behind_three (words_left c.args.words)
    words_are = search rules

pub returns : goal.returns
returns c =
    standing_is (words_left c.args.words) c.in_ok-authority.authority c.new-turn.result c.in_ok-begun.begun c.in_ok-answer.answer c.in_ok-answer.life
    (search rules) (search rules) (search rules)
    (subst (λ (ws : List (List ℕ)). ReadsAnswer Two ws (Ok (c.in_ok-answer.answer, c.in_ok-answer.life))) words_are c.in_ok-answer.ensures)
  where
    words_are : words_left c.next_number-2.new.words ≡ behind_three (words_left c.args.words)
    words_are = search rules
