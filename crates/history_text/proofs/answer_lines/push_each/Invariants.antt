-- The lines of so many answers reached the output, and the others are behind the last one.
use Rattle.std.proofs.Common.{filter, length}
use Rattle.std.specs.Option.{option_copied}
use Rattle.gate_history.specs.Order.{is_behind}
use Rattle.history_text.proofs.AnswerLines.{ArePushed}
use Rattle.history_text.proofs.answer_lines.push_each.Given as goal

abbrev pub invariant-loop-answer : goal.invariant-loop-answer
invariant-loop-answer g l = ArePushed l.base.standing (option_copied l.last) (g.W.Sink.written l.initial.sink) (g.W.Sink.written l.sink)
    (g.W.Sink.failures l.initial.sink) (g.W.Sink.failures l.sink) l.initial.output l.output

abbrev pub decreases-loop-answer : goal.decreases-loop-answer
decreases-loop-answer g l = length (filter (is_behind (option_copied l.last)) l.base.standing)
