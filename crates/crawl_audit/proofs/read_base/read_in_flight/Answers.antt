-- The words behind this letter are read back as their row.
use Rattle.std.proofs.Common.{codes, rules}
use Rattle.line_text.specs.Words.{words_left}
use Rattle.crawl_audit.specs.OpenRows.{InFlight}
use Rattle.crawl_audit.proofs.RowsRead.{row_is, row_read}
use Rattle.crawl_audit.proofs.read_base.read_in_flight.Goals as goal

pub returns-in_err-authority : goal.returns-in_err-authority
returns-in_err-authority c = row_read (codes "I") (words_left c.args.words) _ (search rules)

pub returns-in_err-next_number : goal.returns-in_err-next_number
returns-in_err-next_number c = row_read (codes "I") (words_left c.args.words) _ (search rules)

pub returns-in_err-begun : goal.returns-in_err-begun
returns-in_err-begun c = row_read (codes "I") (words_left c.args.words) _ (search rules)

pub returns : goal.returns
returns c = row_is (codes "I") (words_left c.args.words) (InFlight (record { authority = c.in_ok-authority.authority; turn = c.new-turn.result; begun = c.in_ok-begun.begun })) (search rules)
