-- The answers in order are the same answers.
use Rattle.std.proofs.Common.{IsPermutation, List, subst, sym}
use Rattle.authority_cache.specs.declared.standing_answer.StandingAnswer.{StandingAnswer}
use Rattle.gate_history.specs.Base.{Base}
use Rattle.gate_history.specs.Order.{in_order}
use Rattle.gate_history.proofs.AnswerOrder.{order_moves}
use Rattle.gate_history.proofs.base.Base.standing.Goals as goal

pub returns : goal.returns
returns c =
    let xs = c.self.inside.left.standing.items in
    subst (λ (base : Base). IsPermutation c.as_slice.result.now base.standing) c.self.view_is
    (subst (λ (ys : List StandingAnswer). IsPermutation ys (in_order xs)) (sym c.as_slice.ensures.value) (order_moves xs))
