-- The words behind this letter are read back as their entry.
use Rattle.std.proofs.Common.{codes, rules}
use Rattle.line_text.specs.Words.{words_left}
use Rattle.gate_history.specs.declared.entry.Entry.TheVariants.{Returned}
use Rattle.crawl_audit.proofs.EntriesRead.{entry_is, entry_read}
use Rattle.crawl_audit.proofs.read.read_returned.Goals as goal

pub returns-in_err-next_number : goal.returns-in_err-next_number
returns-in_err-next_number c = λ version. entry_read version (codes "K") (words_left c.args.words) _ (search rules)

pub returns : goal.returns
returns c = λ version. entry_is version (codes "K") (words_left c.args.words) (Returned c.new-number.result) (search rules)
