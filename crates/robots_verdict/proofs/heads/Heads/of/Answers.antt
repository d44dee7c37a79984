-- The names are sorted as what they are seen as.
use Rattle.std.proofs.Common.{rules, of_calls, ℕ, List, map, ap, ◌∙◌}
use Rattle.std.proofs.lemmas.Fn.{always_returns_same}
use Rattle.std.proofs.lemmas.List.Sorted.{IsNonDecreasingBy-from_sort, IsPermutation-map, ranks_by}
use Rattle.robots_verdict.specs.declared.heads.Name.{Name}
use Rattle.robots_verdict.specs.Heads.{is_name_before, name_seen}
use Rattle.robots_verdict.proofs.HeadLemmas.{names_total, sorted_map}
use Rattle.robots_verdict.proofs.heads.Heads.of.Goals as goal

pub invariant_of-result : goal.invariant_of-result
invariant_of-result c = (
  c.in_ok-groups.ensures ∙ ap (λ (names : List Name). map (λ (n : Name). n.group) names) c.as_slice.ensures.value,
  sorted_map name_seen is_name_before c.sort_unstable_by.new.self.items
      (c.sort_unstable_by.ensures.sorted (λ a b. is_name_before (name_seen a) (name_seen b)) (ranks_by names_total name_seen)
      (always_returns_same _ _ _ (λ a r f k. search (rules, of_calls)))),
  IsNonDecreasingBy-from_sort (λ (n : ℕ). n) c.sort_unstable.new.self.items c.sort_unstable.ensures.sorted,
)

pub returns-clause-named : goal.returns-clause-named
returns-clause-named c = IsPermutation-map name_seen c.args.names.names.items c.sort_unstable_by.new.self.items c.sort_unstable_by.ensures.permutation
