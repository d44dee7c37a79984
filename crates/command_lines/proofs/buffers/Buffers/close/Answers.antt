-- A flush that fails after the last words leaves a part of them.
use Rattle.std.proofs.lemmas.Result.{err_from_is_err_and}
use Rattle.counted_io.proofs.CallerLemmas.{Passes-cut-all}
use Rattle.command_lines.proofs.buffers.Buffers.close.Goals as goal

pub returns-in_err-flush-clause-wrote : goal.returns-in_err-flush-clause-wrote
returns-in_err-flush-clause-wrote g c =
    let p = err_from_is_err_and c.from_residual-in_err-flush.result c.from_residual-in_err-flush.ensures.1 in
    rw (p.1, p.2, ← c.last_pieces.ensures) (Passes-cut-all _ _ _ _ _ c.in_ok-push.ensures.ok c.in_err-flush.ensures.err)
