-- The octets of the last of the remaining texts are those of the last of all.
use Rattle.std.proofs.Common.{◌≡◌, length}
use Rattle.journal.specs.Joining.{octets_behind}
use Rattle.journal.proofs.joined.octets_behind.Given as goal

abbrev pub invariant-loop-rest : goal.invariant-loop-rest
invariant-loop-rest l = octets_behind l.rest l.left ≡ octets_behind l.reads l.octets

abbrev pub decreases-loop-rest : goal.decreases-loop-rest
decreases-loop-rest l = length l.rest
