-- This many octets were appended, and nothing failed.
use Rattle.std.proofs.Common.{length, take, ◌-◌, ◌≡◌, ◌≤◌}
use Rattle.std.specs.Io.KnownBytes.{Appends}
use Rattle.journal.proofs.tape.append_all.Given as goal

abbrev pub invariant-loop-done : goal.invariant-loop-done
invariant-loop-done g l = record {
  within : l.done ≤ length l.bytes;
  appended : Appends (g.T.Tape.written l.fn.tape) (g.T.Tape.written l.tape) (take l.done l.bytes);
  least : g.T.Tape.kept l.fn.tape ≤ g.T.Tape.kept l.tape;
  count : g.T.Tape.failures l.tape ≡ g.T.Tape.failures l.fn.tape;
}

abbrev pub decreases-loop-done : goal.decreases-loop-done
decreases-loop-done g l = length l.bytes - l.done
