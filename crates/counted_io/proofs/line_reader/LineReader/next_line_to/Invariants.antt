-- The line's prefix was consumed, without a line feed, within the limit and a carriage return.
use Rattle.std.proofs.Common.{◌≡◌, ◌≤◌, ◌+◌, ◌-◌, vec_len}
use Rattle.std.specs.Prelude.{Contains}
use Rattle.std.specs.Io.KnownBytes.{Consumes, prepend_known}
use Rattle.counted_io.specs.Lines.{HasNoLineFeed}
use Rattle.counted_io.proofs.line_reader.LineReader.next_line_to.Given as goal

abbrev pub invariant-loop-self : goal.invariant-loop-self
invariant-loop-self g l = record {
  consumed : Consumes (prepend_known l.fn.self (g.S.Source.left l.fn.source)) (prepend_known l.self (g.S.Source.left l.source)) l.line.items;
  no_line_feed : HasNoLineFeed l.line.items;
  fits : vec_len l.line ≤ l.limit + 1;
  count : g.S.Source.failures l.source ≡ g.S.Source.failures l.fn.source;
  buffered : Contains l.fn.self 10 → (l.source ≡ l.fn.source) × (l.self ≡ l.fn.self);
}

abbrev pub decreases-loop-self : goal.decreases-loop-self
decreases-loop-self g l = l.limit + 2 - vec_len l.line
