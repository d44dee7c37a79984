-- The desk keeps its number and its permits, and has swept at the clock's readings.
-- Used by `Server::go_round`.
use Rattle.std.proofs.Common.{◌≡◌}
use Rattle.gate_lock.specs.Desks.{KeepsOut}
use Rattle.line_server.proofs.Rounds.{HasGone}
use Rattle.line_server.proofs.server.Server.go_round.Given as goal

abbrev pub invariant-loop : goal.invariant-loop
invariant-loop g l = record {
  goes : (goal.iterator-loop g).can_next l.iterator';
  ends : (goal.iterator-loop g).is_finite l.iterator';
  no : l.desk.no ≡ l.fn.desk.no;
  out : KeepsOut l.fn.desk l.desk;
  gone : HasGone (g.C.NumberedClock.reads l.self.clock.now) l.fn.desk l.desk l.rounds.number;
}
