-- The words behind this letter are read back as their row.
use Rattle.std.proofs.Common.{codes, rules}
use Rattle.line_text.specs.Words.{words_left}
use Rattle.crawl_audit.specs.OpenRows.{Greatest}
use Rattle.crawl_audit.proofs.RowsRead.{row_is, row_read}
use Rattle.crawl_audit.proofs.read_base.read_greatest.Goals as goal

pub returns-in_err-slot : goal.returns-in_err-slot
returns-in_err-slot c = row_read (codes "L") (words_left c.args.words) _ (search rules)

pub returns-in_err-generation : goal.returns-in_err-generation
returns-in_err-generation c = row_read (codes "L") (words_left c.args.words) _ (search rules)

pub returns : goal.returns
returns c = row_is (codes "L") (words_left c.args.words) (Greatest (record { slot = c.in_ok-slot.slot; generation = c.in_ok-generation.generation })) (search rules)
