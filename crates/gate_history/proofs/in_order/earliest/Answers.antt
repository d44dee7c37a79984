-- Each round looks at one more answer.
use Rattle.std.proofs.Common.{◌+◌, List, Option, ap, get_or, subst, sym, take, ◌∙◌}
use Rattle.std.specs.Option.{option_copied}
use Rattle.std.proofs.lemmas.List.{take_more}
use Rattle.authority_cache.specs.declared.standing_answer.StandingAnswer.{StandingAnswer}
use Rattle.gate_history.specs.Order.{IsEarliest, earlier_of}
use Rattle.gate_history.proofs.AnswerOrder.{earliest_more}
use Rattle.gate_history.proofs.in_order.earliest.Goals as goal

pub loop-answer-preserved : goal.loop-answer-preserved
loop-answer-preserved c =
    let xs = c.args.answers.now in
    let i = c.loop-answer.answer-index in
    let last = option_copied c.args.last in
    let found = option_copied c.loop-answer.next in
    subst (λ (next : Option StandingAnswer). IsEarliest last (take (i + 1) xs) next) (sym (c.earlier-next.ensures ∙ ap (earlier_of last found) c.answer-item.is))
    (subst (λ (ys : List StandingAnswer). IsEarliest last ys (earlier_of last found (get_or xs i c.answer-item.result))) (sym (take_more xs i c.answer-item.result c.loop-answer-test.true))
    (earliest_more last (take i xs) found (get_or xs i c.answer-item.result) c.loop-answer.invariant))
