-- A look by the framing of the body.
use Rattle.std.proofs.Common.{drop, rules}
use Rattle.http_wire.proofs.BodyShort.{counted_short}
use Rattle.http_wire.proofs.body_decoder.BodyDecoder.see.Goals as goal

pub returns-in-Counted-clause-sees : goal.returns-in-Counted-clause-sees
returns-in-Counted-clause-sees c = rw c.in-Counted.is (c.see_counted.ensures.sees c.args.last)

pub returns-in-Counted-clause-more : goal.returns-in-Counted-clause-more
returns-in-Counted-clause-more c more = (
  search rules,
  rw c.in-Counted.is (counted_short _ c.args.self.now.limit (drop c.args.self.now.start c.args.buffer.now) c.see_counted.result c.see_counted.ensures.sees more),
)
