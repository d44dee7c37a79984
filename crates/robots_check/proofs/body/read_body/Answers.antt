-- What was read up to the limit is the body.
-- Used by `read_body`.
use Rattle.robots_check.proofs.Reading.{body_read}
use Rattle.robots_check.proofs.body.read_body.Goals as goal

pub returns-clause-body : goal.returns-clause-body
returns-clause-body g c = body_read _ _ c.in_ok-body.body.items c.in_ok-body.ensures.body
