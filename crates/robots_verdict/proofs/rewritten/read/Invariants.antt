-- What was read and what is left make up the text.
use Rattle.robots_text.specs.Grouped.{grouped_left, grouped_records}
use Rattle.robots_verdict.proofs.Rewriting.{IsRewriting}
use Rattle.robots_verdict.proofs.rewritten.read.Given as goal

abbrev pub invariant-loop-item : goal.invariant-loop-item
invariant-loop-item l = IsRewriting (grouped_records l.text) (grouped_left l.records) l.rewritten.of_lines l.rewritten.octets
