-- The permit that the words write was read.
use Rattle.std.proofs.Common.{Ok, rules}
use Rattle.line_text.specs.Words.{words_left}
use Rattle.crawl_audit.proofs.RowsRead.{permit_read}
use Rattle.crawl_audit.proofs.read_base.read_permit.Goals as goal

pub returns-in_err-next_number : goal.returns-in_err-next_number
returns-in_err-next_number c = permit_read (words_left c.args.words) _ (search rules)

pub returns : goal.returns
returns c =
    permit_read (words_left c.args.words) (Ok (c.new-number.result, record { token = c.in_ok-token.token; url = c.in_ok-url.url })) (search rules)
