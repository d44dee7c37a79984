-- No question mark precedes the remaining octets.
use Rattle.std.proofs.Common.{◌≡◌, length}
use Rattle.robots_check.specs.Notes.{behind_question}
use Rattle.robots_check.proofs.notes.behind_question.Given as goal

abbrev pub invariant-loop-left : goal.invariant-loop-left
invariant-loop-left l = behind_question l.value ≡ behind_question l.left

abbrev pub decreases-loop-left : goal.decreases-loop-left
decreases-loop-left l = length l.left
