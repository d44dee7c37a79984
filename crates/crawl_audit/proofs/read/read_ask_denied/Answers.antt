-- The words behind this letter are read back as their entry.
use Rattle.std.proofs.Common.{codes, rules}
use Rattle.line_text.specs.Words.{words_left}
use Rattle.gate_history.specs.declared.entry.Entry.TheVariants.{AskDenied}
use Rattle.crawl_audit.proofs.EntriesRead.{entry_is, entry_read}
use Rattle.crawl_audit.proofs.read.read_ask_denied.Goals as goal

pub returns-in_err-moment : goal.returns-in_err-moment
returns-in_err-moment c = λ version. entry_read version (codes "N") (words_left c.args.words) _ (search rules)

pub returns-in_err-token : goal.returns-in_err-token
returns-in_err-token c = λ version. entry_read version (codes "N") (words_left c.args.words) _ (search rules)

pub returns-in_err-url : goal.returns-in_err-url
returns-in_err-url c = λ version. entry_read version (codes "N") (words_left c.args.words) _ (search rules)

pub returns-in_err-cause : goal.returns-in_err-cause
returns-in_err-cause c = λ version. entry_read version (codes "N") (words_left c.args.words) _ (search rules)

pub returns : goal.returns
returns c = λ version. entry_is version (codes "N") (words_left c.args.words) (AskDenied c.in_ok-moment.moment (record { token = c.in_ok-token.token; url = c.in_ok-url.url }) c.in_ok-cause.cause) (search rules)
