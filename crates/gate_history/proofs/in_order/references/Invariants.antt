-- The references so far are to the answers so far.
use Rattle.std.proofs.Common.{◌≡◌, map, take}
use Rattle.gate_history.proofs.in_order.references.Given as goal

abbrev pub invariant-loop-answer : goal.invariant-loop-answer
invariant-loop-answer l = map (λ answer. answer.now) l.made.items ≡ take l.answer-index l.answers
