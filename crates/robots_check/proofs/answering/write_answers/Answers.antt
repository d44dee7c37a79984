-- What passed to the output is written, or cut there.
-- By the lemmas of `Passing`.
use Rattle.std.proofs.Common.{refl}
use Rattle.std.proofs.lemmas.Result.{err_from_is_err_and}
use Rattle.robots_check.proofs.Passing.{front_none, told_front}
use Rattle.robots_check.proofs.answering.write_answers.Goals as goal

pub returns-in_err-output-clause-tells : goal.returns-in_err-output-clause-tells
returns-in_err-output-clause-tells g c =
    let p = err_from_is_err_and c.from_residual.result c.from_residual.ensures.1 in
    rw (p.1, p.2) (front_none _ _ _ _ _)

pub returns-in_err-flush-clause-tells : goal.returns-in_err-flush-clause-tells
returns-in_err-flush-clause-tells g c =
    let p = err_from_is_err_and c.from_residual-in_err-flush.result c.from_residual-in_err-flush.ensures.1 in
    rw (p.1, p.2)
    (told_front _ c.args.judge.text.now c.args.judge.text.now _ _ _ _ _ _ _ _ refl c.in_ok-output.ensures.empty c.in_ok-outcome.ensures.passes c.in_err-flush.ensures.err)
