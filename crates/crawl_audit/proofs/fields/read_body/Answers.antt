-- The body that the word writes was read.
use Rattle.std.proofs.Common.{rules}
use Rattle.crawl_audit.proofs.EntriesRead.{body_read}
use Rattle.crawl_audit.proofs.fields.read_body.Goals as goal

pub returns-then-eq : goal.returns-then-eq
returns-then-eq c = body_read c.args.word.now c.read.result (search rules)

pub returns : goal.returns
returns c = body_read c.args.word.now c.read-2.result (search rules)
