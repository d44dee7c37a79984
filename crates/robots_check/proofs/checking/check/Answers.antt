-- The text's answers are the input's.
-- By the lemmas of `Reading`.
use Rattle.robots_check.proofs.Reading.{checks_of, text_read}
use Rattle.robots_check.proofs.checking.check.Goals as goal

pub returns-clause-checks : goal.returns-clause-checks
returns-clause-checks g c =
    checks_of _ _ _ _ _ _ _ _ c.answer.result (text_read _ _ c.in_ok-body.body.items _ c.in_ok-body.ensures.body c.of-text.ensures) c.answer.ensures.tells
