-- The words behind this letter are read back as their entry.
use Rattle.std.proofs.Common.{codes, rules}
use Rattle.line_text.specs.Words.{words_left}
use Rattle.gate_history.specs.declared.entry.Entry.TheVariants.{Swept}
use Rattle.crawl_audit.proofs.EntriesRead.{entry_is, entry_read}
use Rattle.crawl_audit.proofs.read.read_swept.Goals as goal

pub returns-in_err-moment : goal.returns-in_err-moment
returns-in_err-moment c = λ version. entry_read version (codes "W") (words_left c.args.words) _ (search rules)

pub returns-in_err-count : goal.returns-in_err-count
returns-in_err-count c = λ version. entry_read version (codes "W") (words_left c.args.words) _ (search rules)

pub returns : goal.returns
returns c = λ version. entry_is version (codes "W") (words_left c.args.words) (Swept c.in_ok-moment.moment c.in_ok-count.count) (search rules)
