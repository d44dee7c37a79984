-- The remaining octets without leading blanks are the same.
use Rattle.std.proofs.Common.{◌≡◌, length}
use Rattle.robots_text.specs.Records.{without_leading}
use Rattle.robots_text.proofs.record.without_leading.Given as goal

abbrev pub invariant-loop-first : goal.invariant-loop-first
invariant-loop-first l = without_leading l.rest ≡ without_leading l.octets

abbrev pub decreases-loop-first : goal.decreases-loop-first
decreases-loop-first l = length l.rest
