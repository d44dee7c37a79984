-- The text pushed is that of what was sealed.
use Rattle.std.proofs.Common.{refl}
use Rattle.command_lines.proofs.Giving.{gives_ok, cuts_err}
use Rattle.command_lines.proofs.book_lines.answer_seal.Goals as goal

pub returns-clause-ok : goal.returns-clause-ok
returns-clause-ok g c =
    gives_ok _ _ _ _ _ _ c.push_sealed.result (c.seal-sealed.result, (c.seal-sealed.ensures, refl)) c.push_sealed.ensures.ok

pub returns-clause-err : goal.returns-clause-err
returns-clause-err g c =
    cuts_err _ _ _ _ _ c.push_sealed.result (c.seal-sealed.result, (c.seal-sealed.ensures, refl)) c.push_sealed.ensures.err
