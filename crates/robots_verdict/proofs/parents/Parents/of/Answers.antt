-- The place where the children are split is that of the index, if it has a parent.
use Rattle.std.proofs.Common.{rules, of_calls, ◌≡◌, ℕ, length, List, get_or, map, sym, ap, ◌∙◌, subst, arith}
use Rattle.std.specs.Prelude.{nat_lt, Some}
use Rattle.std.specs.Option.{is_some}
use Rattle.std.specs.List.Sorted.{IsNonDecreasingBy}
use Rattle.std.proofs.lemmas.Bool.{ltb-false, ltb-true}
use Rattle.std.proofs.lemmas.List.{get_or_default}
use Rattle.std.proofs.lemmas.Fn.{always_returns_same}
use Rattle.std.proofs.lemmas.List.Sorted.{IsPartitionedBy-ltb}
use Rattle.robots_verdict.specs.declared.parents.Child.{Child}
use Rattle.robots_verdict.specs.Parents.{child, index_of, parent_of}
use Rattle.robots_verdict.proofs.Listed.{found, IsSplit, missing}
use Rattle.robots_verdict.proofs.parents.Parents.of.Goals as goal

pub returns-in-Some : goal.returns-in-Some
returns-in-Some c =
    let children = c.as_slice-children.result.now in
    let at = c.partition_point-at.result in
    let here = c.in-Some.child.now in
    let value = c.as_slice-children.ensures.value in
    let up = subst (IsNonDecreasingBy index_of) (sym value) c.self.invariant in
    let split : IsSplit children c.args.index at =
    c.partition_point-at.ensures.partitioned (λ (it : Child). nat_lt (index_of it) c.args.index) (always_returns_same _ _ _ (λ a r f k. search (rules, of_calls)))
    (IsPartitionedBy-ltb index_of children c.args.index up) in
    let lookup = (c.in-Some.ensures {u = tt}).lookup in
    let within = ltb-true at (length children) (sym lookup.0) in
    let is : index_of (get_or children at here) ≡ c.args.index = ap index_of (sym lookup.1) ∙ sym c.number.ensures ∙ c.if-number-index.true in
    ap Some (c.number-in-Some.ensures ∙ ap (λ (it : Child). it.parent) lookup.1)
    ∙ sym (found children c.args.index at here split within is)
    ∙ ap (λ (l : List (ℕ × ℕ)). parent_of l c.args.index) (ap (map child) value ∙ c.self.view_is)

pub returns-in_default : goal.returns-in_default
returns-in_default c =
    let children = c.as_slice-children.result.now in
    let at = c.partition_point-at.result in
    let here = c.in-Some.child.now in
    let value = c.as_slice-children.ensures.value in
    let up = subst (IsNonDecreasingBy index_of) (sym value) c.self.invariant in
    let split : IsSplit children c.args.index at =
    c.partition_point-at.ensures.partitioned (λ (it : Child). nat_lt (index_of it) c.args.index) (always_returns_same _ _ _ (λ a r f k. search (rules, of_calls)))
    (IsPartitionedBy-ltb index_of children c.args.index up) in
    let lookup = (c.in-Some.ensures {u = tt}).lookup in
    sym (missing children c.args.index at up split (λ d within same. c.if-number-index.false (c.number.ensures ∙ ap index_of (lookup.1 ∙ get_or_default children at here d within) ∙ same)))
    ∙ ap (λ (l : List (ℕ × ℕ)). parent_of l c.args.index) (ap (map child) value ∙ c.self.view_is)

pub returns-in_default-2 : goal.returns-in_default-2
returns-in_default-2 c =
    let children = c.as_slice-children.result.now in
    let at = c.partition_point-at.result in
    let value = c.as_slice-children.ensures.value in
    let up = subst (IsNonDecreasingBy index_of) (sym value) c.self.invariant in
    let split : IsSplit children c.args.index at =
    c.partition_point-at.ensures.partitioned (λ (it : Child). nat_lt (index_of it) c.args.index) (always_returns_same _ _ _ (λ a r f k. search (rules, of_calls)))
    (IsPartitionedBy-ltb index_of children c.args.index up) in
    let past = ltb-false at (length children) (sym c.get.ensures.lookup.0 ∙ ap is_some c.in_default.is) in
    sym (missing children c.args.index at up split (λ d within same. omega (arith, within, past)))
    ∙ ap (λ (l : List (ℕ × ℕ)). parent_of l c.args.index) (ap (map child) value ∙ c.self.view_is)
