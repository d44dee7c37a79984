-- What waits to be sent stays.
use Rattle.std.specs.Prelude.{◌≡◌}
use Rattle.http_server.specs.Connection.{history}
use Rattle.http_turns.proofs.talk.feed.Given as goal

abbrev pub invariant-loop : goal.invariant-loop
invariant-loop l = (history l.connection).pending ≡ (history l.initial.connection).pending
