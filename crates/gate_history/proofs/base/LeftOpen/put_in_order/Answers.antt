-- The answers are sorted by authority, and the others by number.
use Rattle.std.proofs.Common.{List, IsPermutation, rules, of_calls, ap, subst, sym}
use Rattle.std.specs.Ordering.{is_lt, nat_cmp}
use Rattle.std.specs.Cmp.Lexicographic.{slice_cmp}
use Rattle.std.proofs.lemmas.Cmp.{nat_list_cmp_total}
use Rattle.std.proofs.lemmas.Fn.{always_returns_same}
use Rattle.std.proofs.lemmas.List.Sorted.{ranks_by}
use Rattle.authority_cache.specs.declared.standing_answer.StandingAnswer.{StandingAnswer}
use Rattle.gate_history.specs.Order.{AnswersRise}
use Rattle.gate_history.proofs.base.LeftOpen.put_in_order.Goals as goal

pub returns-clause-same : goal.returns-clause-same
returns-clause-same c numbers =
    let rest = c.put_numbers_in_order.ensures.same numbers in
    record {
      answers = subst (λ (xs : List StandingAnswer). IsPermutation c.args.self.now.standing.items xs)
          (sym (ap (λ v. v.items) c.put_numbers_in_order.ensures.standing)) c.sort_unstable_by.ensures.permutation;
      turns = rest.turns;
      permits = rest.permits;
      runs = rest.runs;
      grants = rest.grants;
      begun = rest.begun;
      moment = rest.moment;
      entries = rest.entries;
      started = rest.started;
    }

pub returns-clause-order : goal.returns-clause-order
returns-clause-order c numbers = record {
  answers = subst (λ (xs : List StandingAnswer). AnswersRise xs) (sym (ap (λ v. v.items) c.put_numbers_in_order.ensures.standing))
      (c.sort_unstable_by.ensures.sorted (λ one other. is_lt (slice_cmp nat_cmp one.authority other.authority))
      (ranks_by nat_list_cmp_total (λ (s : StandingAnswer). s.authority)) (always_returns_same _ _ _ (λ a r f k. search (rules, of_calls))));
  turns = c.put_numbers_in_order.ensures.turns;
  permits = c.put_numbers_in_order.ensures.permits;
  runs = c.put_numbers_in_order.ensures.runs;
  grants = c.put_numbers_in_order.ensures.grants;
}
