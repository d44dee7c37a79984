-- Rows are sorted by their weights.
use Rattle.std.proofs.Common.{rules, of_calls, List, ap, subst}
use Rattle.std.specs.List.Sorted.{IsPermutation}
use Rattle.std.proofs.lemmas.Fn.{always_returns_same}
use Rattle.std.proofs.lemmas.List.Sorted.{All-permutation, IsPermutation-map, ranks_by}
use Rattle.robots_verdict.specs.Placed.{Placed, Table}
use Rattle.robots_verdict.specs.Rows.{IsThere, row_seen, rows_seen, weight_kept}
use Rattle.robots_verdict.specs.Weights.{is_above}
use Rattle.robots_verdict.proofs.RowLemmas.{sorted_seen}
use Rattle.robots_verdict.proofs.Weighing.{falling_total}
use Rattle.robots_verdict.proofs.rows.Rows.sort.Goals as goal

pub invariant_of-self : goal.invariant_of-self
invariant_of-self c =
    All-permutation (IsThere c.self.inside.octets.items) c.self.inside.rows.items c.sort_unstable_by.new.self.items c.sort_unstable_by.ensures.permutation c.self.invariant

pub returns-clause-permutation : goal.returns-clause-permutation
returns-clause-permutation c =
    subst (λ (rows : List Placed). IsPermutation rows (rows_seen c.self.inside.octets.items c.sort_unstable_by.new.self.items)) (ap (λ (t : Table). t.rows) c.self.view_is)
    (IsPermutation-map (row_seen c.self.inside.octets.items) c.self.inside.rows.items c.sort_unstable_by.new.self.items c.sort_unstable_by.ensures.permutation)

pub returns-clause-falling : goal.returns-clause-falling
returns-clause-falling c =
    let there = All-permutation (IsThere c.self.inside.octets.items) c.self.inside.rows.items c.sort_unstable_by.new.self.items c.sort_unstable_by.ensures.permutation c.self.invariant in
    sorted_seen c.self.inside.octets.items c.sort_unstable_by.new.self.items there
    (c.sort_unstable_by.ensures.sorted (λ a b. is_above (weight_kept a) (weight_kept b)) (ranks_by falling_total weight_kept)
    (always_returns_same _ _ _ (λ a r f k. search (rules, of_calls))))
