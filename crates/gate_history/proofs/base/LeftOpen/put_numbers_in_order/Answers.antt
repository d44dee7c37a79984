-- Each list is sorted by key, with the same elements.
use Rattle.std.proofs.Common.{rules, of_calls, refl}
use Rattle.std.proofs.lemmas.Fn.{always_returns_same}
use Rattle.std.proofs.lemmas.List.Sorted.{IsPermutation-refl}
use Rattle.permit_book.specs.declared.granted_permit.GrantedPermit.{GrantedPermit}
use Rattle.authority_cache.specs.declared.turn.Turn.{Turn}
use Rattle.gate_history.specs.declared.base.SlotGrant.{SlotGrant}
use Rattle.gate_history.proofs.base.LeftOpen.put_numbers_in_order.Goals as goal

pub returns-clause-same : goal.returns-clause-same
returns-clause-same c numbers = record {
  answers = IsPermutation-refl c.args.self.now.standing.items;
  turns = c.sort_unstable_by_key.ensures.permutation;
  permits = c.sort_unstable_by_key-2.ensures.permutation;
  runs = c.sort_unstable_by_key-3.ensures.permutation;
  grants = c.sort_unstable_by_key-4.ensures.permutation;
  begun = refl;
  moment = refl;
  entries = refl;
  started = refl;
}

pub returns-clause-turns : goal.returns-clause-turns
returns-clause-turns c = c.sort_unstable_by_key.ensures.sorted (λ (t : Turn). t.turn) (always_returns_same _ _ _ (λ a r f k. search (rules, of_calls)))

pub returns-clause-permits : goal.returns-clause-permits
returns-clause-permits c = c.sort_unstable_by_key-2.ensures.sorted (λ (p : GrantedPermit). p.number) (always_returns_same _ _ _ (λ a r f k. search (rules, of_calls)))

pub returns-clause-runs : goal.returns-clause-runs
returns-clause-runs c = c.sort_unstable_by_key-3.ensures.sorted (λ (p : GrantedPermit). p.number) (always_returns_same _ _ _ (λ a r f k. search (rules, of_calls)))

pub returns-clause-grants : goal.returns-clause-grants
returns-clause-grants c = c.sort_unstable_by_key-4.ensures.sorted (λ (g : SlotGrant). g.slot) (always_returns_same _ _ _ (λ a r f k. search (rules, of_calls)))
