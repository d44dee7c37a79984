-- The words and the answer behind this letter are read back as their entry.
use Rattle.std.proofs.Common.{◌≡◌, ℕ, List, ◌∷◌, Ok, Err, codes, rules, subst, sym}
use Rattle.std.specs.Prelude.{Result}
use Rattle.line_text.specs.Words.{words_left}
use Rattle.crawl_audit.specs.declared.record.Record.{Record}
use Rattle.crawl_audit.specs.declared.unread_line.UnreadLine.{UnreadLine}
use Rattle.crawl_audit.specs.Reading.{ReadsAnswer, ReadsEntry}
use Rattle.crawl_audit.proofs.EntriesRead.{behind_three, arrival_is, arrival_refused, entry_read}
use Rattle.crawl_audit.proofs.read.read_arrived.Goals as goal

pub returns-in_err-moment : goal.returns-in_err-moment
returns-in_err-moment c = entry_read c.args.version (codes "A") (words_left c.args.words) _ (search rules)

pub returns-in_err-authority : goal.returns-in_err-authority
returns-in_err-authority c = entry_read c.args.version (codes "A") (words_left c.args.words) _ (search rules)

pub returns-in_err-next_number : goal.returns-in_err-next_number
returns-in_err-next_number c = entry_read c.args.version (codes "A") (words_left c.args.words) _ (search rules)

pub returns-in_err-answer : goal.returns-in_err-answer
returns-in_err-answer c =
    let answer = subst (λ (ws : List (List ℕ)). ReadsAnswer c.args.version ws (Err c.in_err-answer.field-0.0)) words_are c.in_err-answer.ensures in
    let same : c.from_residual-in_err-answer.result ≡ Err c.in_err-answer.field-0.0 = search rules in
    subst (λ (r : Result Record UnreadLine). ReadsEntry c.args.version (codes "A" ∷ words_left c.args.words) r) (sym same) (arrival_refused c.args.version (words_left c.args.words) c.in_err-answer.field-0.0 answer)
  where
    words_are : words_left c.next_number-2.new.words ≡ behind_three (words_left c.args.words)
    words_are = search rules

pub returns : goal.returns
returns c =
    arrival_is c.args.version (words_left c.args.words) c.in_ok-moment.moment c.in_ok-authority.authority c.new-turn.result c.in_ok-answer.answer c.in_ok-answer.life
    (search rules) (search rules) (search rules)
    (subst (λ (ws : List (List ℕ)). ReadsAnswer c.args.version ws (Ok (c.in_ok-answer.answer, c.in_ok-answer.life))) words_are c.in_ok-answer.ensures)
  where
    words_are : words_left c.next_number-2.new.words ≡ behind_three (words_left c.args.words)
    words_are = search rules
