-- The remaining octets without trailing blanks are the same.
use Rattle.std.proofs.Common.{◌≡◌, length}
use Rattle.robots_text.specs.Records.{without_trailing}
use Rattle.robots_text.proofs.record.without_trailing.Given as goal

abbrev pub invariant-loop-last : goal.invariant-loop-last
invariant-loop-last l = without_trailing l.rest ≡ without_trailing l.octets

abbrev pub decreases-loop-last : goal.decreases-loop-last
decreases-loop-last l = length l.rest
