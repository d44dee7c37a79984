-- The last child is behind all that are listed.
use Rattle.std.proofs.Common.{◌-◌, ◌<◌, ℕ, All, length, sym, subst, arith}
use Rattle.std.specs.List.Sorted.{IsNonDecreasingBy}
use Rattle.std.proofs.lemmas.List.Sorted.{IsNonDecreasingBy-push}
use Rattle.robots_verdict.specs.declared.parents.Child.{Child}
use Rattle.robots_verdict.specs.Parents.{index_of}
use Rattle.robots_verdict.proofs.Listed.{all_before}
use Rattle.robots_verdict.proofs.parents.Parents.push.Goals as goal

pub invariant_of-self : goal.invariant_of-self
invariant_of-self c =
    let children = c.self.inside.children.items in
    let last : Child = record { index = c.of.result; parent = c.of-in-Some.result } in
    let behind = all_before children c.args.index (subst (All (λ (it : ℕ × ℕ). it.0 < c.args.index)) (sym c.self.view_is) c.requires.behind) in
    subst (IsNonDecreasingBy index_of) (sym (c.in_ok-push.ensures {u = tt}).items)
    (IsNonDecreasingBy-push index_of children last c.self.invariant
    (λ d some. let less = behind (length children - 1) d (omega (arith, some)) in omega (arith, less, c.of.ensures)))
