-- The earliest of the answers so far.
use Rattle.std.proofs.Common.{take}
use Rattle.std.specs.Option.{option_copied}
use Rattle.gate_history.specs.Order.{IsEarliest}
use Rattle.gate_history.proofs.in_order.earliest.Given as goal

abbrev pub invariant-loop-answer : goal.invariant-loop-answer
invariant-loop-answer l = IsEarliest (option_copied l.last) (take l.answer-index l.answers) (option_copied l.next)
