-- The lines so far passed, and nothing failed.
-- With those of the remaining records they are all lines.
use Rattle.std.proofs.Common.{◌≡◌, ◌++◌, ℕ, List, length, flat_map}
use Rattle.counted_io.specs.Output.{Passes}
use Rattle.robots_text.specs.Left.{records_left}
use Rattle.robots_check.specs.LinesText.{numbered_text}
use Rattle.robots_check.proofs.writing.push_records.Given as goal

abbrev pub invariant-loop-item : goal.invariant-loop-item
invariant-loop-item g l = record {
  done : List ℕ;
  passed : Passes (g.W.Sink.written l.initial.sink) (g.W.Sink.written l.sink) (l.initial.output ++ done) l.output;
  all : flat_map numbered_text (records_left l.records) ≡ done ++ flat_map numbered_text (records_left l.left);
  count : g.W.Sink.failures l.sink ≡ g.W.Sink.failures l.initial.sink;
}

abbrev pub decreases-loop-item : goal.decreases-loop-item
decreases-loop-item g l = length (records_left l.left)
