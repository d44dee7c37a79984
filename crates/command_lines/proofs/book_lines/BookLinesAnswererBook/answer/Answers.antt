-- A farewell that was cut is the reply to QUIT.
use Rattle.std.proofs.Common.{true, refl, sym, ap, ◌∙◌, subst, inl}
use Rattle.std.specs.Prelude.{Result, Ok}
use Rattle.counted_io.proofs.CallerLemmas.{on_err}
use Rattle.command_lines.specs.declared.command.Command.{Command}
use Rattle.command_lines.specs.declared.fault.LineFault.{LineFault}
use Rattle.command_lines.specs.ReplyText.{bye_text}
use Rattle.command_lines.specs.Replay.{AnswersCommand}
use Rattle.command_lines.proofs.book_lines.BookLinesAnswererBook.answer.Goals as goal

pub returns-in_err-push_bye-in-Ok-Quit-clause-err : goal.returns-in_err-push_bye-in-Ok-Quit-clause-err
returns-in_err-push_bye-in-Ok-Quit-clause-err g c =
    let e = c.in-Ok-Quit.ensures.read ∙ ap (λ (x : Command). Ok x) c.in-Ok-Quit.field-0-is in
    on_err c.from_residual-in_err-push_bye-in-Ok-Quit.result (record {
      reply = bye_text;
      ended = true;
      answered = inl (subst (λ (r : Result Command LineFault). AnswersCommand c.args.self.now.schemes c.args.book.now r bye_text true c.args.book.now) (sym e) (refl, refl, refl));
      cut = c.in_err-push_bye-in-Ok-Quit.ensures.err;
    })
