-- A line is read back as its entry.
use Rattle.crawl_audit.proofs.Spelling.{one_entry, one_history}
use Rattle.crawl_audit.proofs.laws.each_text_has_one_history.Goals as goal

pub returns : goal.returns
returns c = record { entry = one_entry; history = one_history }
