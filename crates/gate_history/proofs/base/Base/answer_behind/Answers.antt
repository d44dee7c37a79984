-- The earliest of the answers behind the last one is the next in order.
use Rattle.std.proofs.Common.{List, subst}
use Rattle.std.specs.Option.{option_copied}
use Rattle.authority_cache.specs.declared.standing_answer.StandingAnswer.{StandingAnswer}
use Rattle.gate_history.specs.Base.{Base}
use Rattle.gate_history.specs.Order.{IsEarliest, IsNextAnswer}
use Rattle.gate_history.proofs.AnswerOrder.{earliest_is_next}
use Rattle.gate_history.proofs.base.Base.answer_behind.Goals as goal

pub returns : goal.returns
returns c =
    let last = option_copied c.args.last in
    let found = option_copied c.earliest.result in
    subst (λ (base : Base). IsNextAnswer base.standing last found) c.self.view_is
    (earliest_is_next last c.self.inside.left.standing.items found
    (subst (λ (xs : List StandingAnswer). IsEarliest last xs found) c.as_slice.ensures.value c.earliest.ensures) c.self.invariant.0.turns.answers_once)
