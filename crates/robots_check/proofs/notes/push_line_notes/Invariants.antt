-- The notes on the lines so far passed, and nothing failed.
use Rattle.std.proofs.Common.{◌≡◌, ◌++◌, take, flat_map}
use Rattle.counted_io.specs.Output.{Passes}
use Rattle.robots_text.specs.Grouped.{grouped_seen, numbered_of}
use Rattle.robots_check.specs.Notes.{line_note}
use Rattle.robots_check.proofs.notes.push_line_notes.Given as goal

abbrev pub invariant-loop-line : goal.invariant-loop-line
invariant-loop-line g l =
    Passes (g.E.Sink.written l.initial.errors) (g.E.Sink.written l.errors) (l.initial.output ++ flat_map (λ line. line_note (numbered_of (grouped_seen line))) (take l.line-index l.lines)) l.output
    × (g.E.Sink.failures l.errors ≡ g.E.Sink.failures l.initial.errors)
