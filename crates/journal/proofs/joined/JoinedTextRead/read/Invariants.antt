-- What was read of all texts is what the buffer has; where that is nothing, the open text is at its end.
use Rattle.std.proofs.Common.{◌≡◌, ◌<◌, ◌≤◌, ◌-◌, length, take}
use Rattle.std.specs.Io.KnownBytes.{Consumes, IsAtEnd}
use Rattle.journal.specs.Joining.{left_of, open_left, opened}
use Rattle.journal.proofs.joined.JoinedTextRead.read.Given as goal

abbrev pub invariant-loop-count : goal.invariant-loop-count
invariant-loop-count g l = record {
  within : l.count ≤ length l.buf;
  size : length l.buf ≡ length l.fn.buf;
  reads : Consumes (left_of g.P.TextPlace.octets g.P.Text.Read.remaining l.fn.self) (left_of g.P.TextPlace.octets g.P.Text.Read.remaining l.self) (take l.count l.buf);
  end : l.count ≡ 0 → 0 < length l.buf → IsAtEnd (open_left g.P.Text.Read.remaining l.self.text);
}

abbrev pub decreases-loop-count : goal.decreases-loop-count
decreases-loop-count g l = length l.self.places.items - opened l.self
