-- The sorted references are to the answers in order.
use Rattle.std.proofs.Common.{List, IsPermutation, ap, map, rules, of_calls, subst, ◌∙◌}
use Rattle.std.proofs.lemmas.Cmp.{nat_list_cmp_total}
use Rattle.std.proofs.lemmas.Fn.{always_returns_same}
use Rattle.std.proofs.lemmas.List.Sorted.{IsPermutation-map, ranks_by}
use Rattle.authority_cache.specs.declared.standing_answer.StandingAnswer.{StandingAnswer}
use Rattle.gate_history.specs.Base.{Base}
use Rattle.gate_history.specs.Order.{is_before}
use Rattle.gate_history.proofs.AnswerOrder.{sorted_is, sorted_map}
use Rattle.gate_history.proofs.base.Base.answers_in_order.Goals as goal

pub returns : goal.returns
returns c =
    let xs = c.self.inside.left.standing.items in
    let made = c.sort_unstable_by.new.self.items in
    let moved = IsPermutation-map (λ answer. answer.now) c.in_ok-answers.answers.items made c.sort_unstable_by.ensures.permutation in
    let rises = c.sort_unstable_by.ensures.sorted (λ one other. is_before one.now other.now)
    (ranks_by nat_list_cmp_total (λ answer. answer.now.authority)) (always_returns_same _ _ _ (λ a r f k. search (rules, of_calls))) in
    sorted_is xs (map (λ answer. answer.now) made) (subst (λ (ys : List StandingAnswer). IsPermutation ys (map (λ answer. answer.now) made)) (c.in_ok-answers.ensures ∙ c.as_slice.ensures.value) moved)
    (sorted_map (λ answer. answer.now) is_before made rises) c.self.invariant.0.turns.answers_once
    ∙ ap (λ (base : Base). base.standing) c.self.view_is
