-- The remaining octets have the same whole lines.
use Rattle.std.proofs.Common.{◌≡◌, ◌≤◌, length}
use Rattle.robots_text.specs.Lines.{whole_lines}
use Rattle.robots_text.proofs.line.whole_lines.Given as goal

abbrev pub invariant-loop-last : goal.invariant-loop-last
invariant-loop-last l = (whole_lines l.rest ≡ whole_lines l.text) × (length l.rest ≤ length l.text)

abbrev pub decreases-loop-last : goal.decreases-loop-last
decreases-loop-last l = length l.rest
