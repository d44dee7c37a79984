-- If memory runs out nothing was written.
-- By the lemmas of `Passing`.
use Rattle.std.proofs.lemmas.Result.{err_from_is_err_and}
use Rattle.robots_check.proofs.Passing.{front_none}
use Rattle.robots_check.proofs.answering.answer.Goals as goal

pub returns-in_err-policy-clause-tells : goal.returns-in_err-policy-clause-tells
returns-in_err-policy-clause-tells g c =
    let p = err_from_is_err_and c.from_residual.result c.from_residual.ensures.1 in
    rw (p.1, p.2) (front_none _ _ _ _ _)
