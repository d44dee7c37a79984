-- What the remaining octets make of it is what all make.
use Rattle.std.proofs.Common.{◌≡◌, length}
use Rattle.journal.specs.Reading.{steps}
use Rattle.journal.proofs.text_read.TextRead.note.Given as goal

abbrev pub invariant-loop-rest : goal.invariant-loop-rest
invariant-loop-rest l = steps l.self l.rest ≡ steps l.fn.self l.octets

abbrev pub decreases-loop-rest : goal.decreases-loop-rest
decreases-loop-rest l = length l.rest
