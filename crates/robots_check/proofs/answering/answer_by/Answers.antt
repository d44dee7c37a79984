-- If memory runs out nothing was written.
-- By the lemmas of `Passing`.
use Rattle.std.proofs.lemmas.Result.{err_from_is_err_and}
use Rattle.robots_check.proofs.Passing.{front_none}
use Rattle.robots_check.proofs.answering.answer_by.Goals as goal

pub returns-in_err-said-clause-tells : goal.returns-in_err-said-clause-tells
returns-in_err-said-clause-tells g c =
    let p = err_from_is_err_and c.from_residual.result c.from_residual.ensures.1 in
    rw (p.1, p.2) (front_none _ _ _ _ _)

pub returns-in_err-tell_said_notes-clause-tells : goal.returns-in_err-tell_said_notes-clause-tells
returns-in_err-tell_said_notes-clause-tells g c =
    let p = err_from_is_err_and c.from_residual-in_err-tell_said_notes.result c.from_residual-in_err-tell_said_notes.ensures.1 in
    rw (p.1, p.2) (front_none _ _ _ _ _)

pub returns-in_err-lines-clause-tells : goal.returns-in_err-lines-clause-tells
returns-in_err-lines-clause-tells g c =
    let p = err_from_is_err_and c.from_residual-in_err-lines.result c.from_residual-in_err-lines.ensures.1 in
    rw (p.1, p.2) (front_none _ _ _ _ _)
