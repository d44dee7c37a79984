-- A session from a client's state is one of its keeper, which stays the lent one, and of the next reading's number.
use Rattle.command_server.specs.Clients.{AnswersClient}
use Rattle.command_lines.proofs.Lent.{session_seen}
use Rattle.command_server.proofs.client_session.run_lines.Goals as goal

pub returns-clause-keeper : goal.returns-clause-keeper
returns-clause-keeper g c =
    let seen = session_seen (λ s. s.keeper.ghost_name) (λ s. record { keeper = s.keeper.now; number = s.number })
    (AnswersClient g.K.Keeper.deals c.args.lines.now.speaker c.args.lines.now.first (g.C.NumberedClock.reads c.args.lines.now.clock.now)) c.run_session.ensures.session in
    seen.0

pub returns-clause-session : goal.returns-clause-session
returns-clause-session g c =
    let seen = session_seen (λ s. s.keeper.ghost_name) (λ s. record { keeper = s.keeper.now; number = s.number })
    (AnswersClient g.K.Keeper.deals c.args.lines.now.speaker c.args.lines.now.first (g.C.NumberedClock.reads c.args.lines.now.clock.now)) c.run_session.ensures.session in
    seen.1
