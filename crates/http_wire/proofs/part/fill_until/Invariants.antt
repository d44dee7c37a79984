-- The buffer has all that was read, and the part's state agrees with it.
use Rattle.std.proofs.Common.{◌≡◌, ◌≤◌, ◌+◌, ◌-◌, length}
use Rattle.http_wire.specs.Reading.{Grows}
use Rattle.http_wire.proofs.part.fill_until.Given as goal

abbrev pub invariant-loop-found : goal.invariant-loop-found
invariant-loop-found g l = record {
  grows : Grows (g.S.Source.left l.fn.source) (g.S.Source.left l.source) l.fn.buffer l.buffer;
  few : length l.buffer ≤ l.most;
  kept : g.P.Part.kept l.part ≡ g.P.Part.kept l.fn.part;
  stands : g.P.Part.stands l.part l.buffer;
  failures : g.S.Source.failures l.source ≡ g.S.Source.failures l.fn.source;
}

abbrev pub decreases-loop-found : goal.decreases-loop-found
decreases-loop-found g l = l.most + 1 - length l.buffer
