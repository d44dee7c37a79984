-- What is pushed is written, or cut.
use Rattle.std.proofs.Common.{[], append-nil, sym, rules}
use Rattle.counted_io.specs.Output.{Passes}
use Rattle.counted_io.proofs.CallerLemmas.{Passes-cut-all, Passes-further}
use Rattle.command_server.proofs.client_reply.ClientReply.tell.Goals as goal

pub returns-in_err-flush : goal.returns-in_err-flush
returns-in_err-flush g c =
    let cut = Passes-cut-all _ _ _ _ _ c.in_ok-push.ensures.ok c.in_err-flush.ensures.err in
    search rules

pub returns-in_ok-flush : goal.returns-in_ok-flush
returns-in_ok-flush g c =
    let written : Passes (g.W.Sink.written c.push.new.sink) (g.W.Sink.written c.flush.new.sink) c.push.new.output [] = record { front = c.push.new.output; wrote = c.in_ok-flush.ensures.ok; split = sym (append-nil c.push.new.output) } in
    let passed = Passes-further _ _ _ _ _ [] c.in_ok-push.ensures.ok written in
    search rules
