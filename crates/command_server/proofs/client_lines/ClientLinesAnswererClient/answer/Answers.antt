-- The reply reaches the output, or is cut there.
use Rattle.std.proofs.Common.{refl, rules}
use Rattle.counted_io.proofs.CallerLemmas.{on_err}
use Rattle.command_lines.specs.Answers.{ends_session}
use Rattle.command_server.specs.ClientReplyText.{client_reply_text}
use Rattle.command_server.proofs.client_lines.ClientLinesAnswererClient.answer.Goals as goal

pub returns-in_err-tell-clause-err : goal.returns-in_err-tell-clause-err
returns-in_err-tell-clause-err g c =
    on_err c.from_residual.result (record {
      reply = client_reply_text c.told_of-told.result;
      ended = ends_session c.flow_behind-flow.result;
      answered = (refl, (c.told_of-told.result, (c.told_of-told.ensures, (refl, c.flow_behind-flow.ensures, search rules))));
      cut = c.in_err-tell.ensures.err;
    })

pub returns-clause-ok : goal.returns-clause-ok
returns-clause-ok g c = record {
  reply = client_reply_text c.told_of-told.result;
  answered = (refl, (c.told_of-told.result, (c.told_of-told.ensures, (refl, c.flow_behind-flow.ensures, search rules))));
  passed = c.in_ok-tell.ensures.ok;
}
