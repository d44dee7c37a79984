-- The answers so far passed, and nothing failed.
use Rattle.std.proofs.Common.{◌≡◌, map, take}
use Rattle.robots_text.specs.Records.{numbered_records}
use Rattle.robots_check.specs.Answering.{Passing}
use Rattle.robots_check.proofs.answering.push_answers.Given as goal

abbrev pub invariant-loop-url : goal.invariant-loop-url
invariant-loop-url g l =
    Passing l.judge.detail (numbered_records l.judge.text.now) l.judge.token.now (map (λ url. url.now) (take l.url-index l.urls)) (g.W.Sink.written l.initial.sink) (g.W.Sink.written l.sink) l.initial.output l.output l.outcome
    × (g.W.Sink.failures l.sink ≡ g.W.Sink.failures l.initial.sink)
