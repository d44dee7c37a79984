-- The text of the reply is pushed.
use Rattle.std.proofs.Common.{refl}
use Rattle.command_lines.proofs.Giving.{gives_ok, cuts_err}
use Rattle.command_lines.proofs.book_lines.answer_call.Goals as goal

pub returns-clause-ok : goal.returns-clause-ok
returns-clause-ok g c =
    gives_ok _ _ _ _ _ _ c.push_reply.result (record { reply = c.answer-reply.result; step = c.answer-reply.ensures.step; told = c.answer-reply.ensures.told; text_is = refl }) c.push_reply.ensures.ok

pub returns-clause-err : goal.returns-clause-err
returns-clause-err g c =
    cuts_err _ _ _ _ _ c.push_reply.result (record { reply = c.answer-reply.result; step = c.answer-reply.ensures.step; told = c.answer-reply.ensures.told; text_is = refl }) c.push_reply.ensures.err
