-- The numbers that the words write were read.
use Rattle.std.proofs.Common.{Some, rules}
use Rattle.line_text.specs.Words.{words_left}
use Rattle.crawl_audit.proofs.RowsRead.{numbers_behind_read}
use Rattle.crawl_audit.proofs.read_base.numbers_behind.Goals as goal

pub returns-in_err-entries : goal.returns-in_err-entries
returns-in_err-entries c = numbers_behind_read (words_left c.args.words) c.from_residual.result (search rules)

pub returns-in_err-started : goal.returns-in_err-started
returns-in_err-started c = numbers_behind_read (words_left c.args.words) c.from_residual-in_err-started.result (search rules)

pub returns-in_err-begins : goal.returns-in_err-begins
returns-in_err-begins c = numbers_behind_read (words_left c.args.words) c.from_residual-in_err-begins.result (search rules)

pub returns-in_err-moment : goal.returns-in_err-moment
returns-in_err-moment c = numbers_behind_read (words_left c.args.words) c.from_residual-in_err-moment.result (search rules)

pub returns : goal.returns
returns c =
    numbers_behind_read (words_left c.args.words) (Some (record { begins = c.in_ok-begins.begins; moment = c.in_ok-moment.moment; entries = c.in_ok-entries.entries; started = c.in_ok-started.started })) (search rules)
