-- Each step spends the last one left, so those spent are the last ones.
use Rattle.std.proofs.Common.{◌≡◌, ◌++◌, [], ◌∷◌, List, ap, ◌∙◌, append_assoc, arith, length, rules, subst, sym}
use Rattle.std.proofs.lemmas.List.Elements.{All-pop}
use Rattle.numbered_store.specs.Stores.{kept_in}
use Rattle.permit_bag.specs.Bags.{ReturnsEach}
use Rattle.gate_lock.specs.Desks.{Pass}
use Rattle.permit_bag.proofs.bag.return_each.Goals as goal

pub loop-permit-preserved : goal.loop-permit-preserved
loop-permit-preserved g c =
    let inv = c.loop-permit.invariant in
    let left = All-pop (λ (p : Pass). p.desk ≡ c.args.desk.now.no) _ _ c.pop.result c.pop.ensures.kept inv.1 in
    let out = c.back.ensures.out in
    let done = inv.2.0 in (
      c.back.ensures.no ∙ inv.0,
      left.0,
      (
        c.in-Some.permit ∷ done,
        inv.2.1 ∙ ap (λ (kept : List Pass). kept ++ done) c.in-Some.ensures.kept ∙ append_assoc (kept_in c.pop.new.self) (c.in-Some.permit ∷ []) done,
        (c.loop-permit.desk, inv.2.2, c.back.ensures.step),
        omega (arith, inv.2.3, out.permits_are, out.runs_are, out.turns_are),
      ),
    )

pub returns-clause-step : goal.returns-clause-step
returns-clause-step g c =
    let inv = c.loop-permit.invariant in
    let none : kept_in c.loop-permit.permits ≡ [] = search rules in
    subst (λ (all : List Pass). ReturnsEach c.args.desk.now all c.loop-permit.desk) (sym (inv.2.1 ∙ ap (λ (left : List Pass). left ++ inv.2.0) none)) inv.2.2

pub returns-clause-out : goal.returns-clause-out
returns-clause-out g c =
    let inv = c.loop-permit.invariant in
    let none : kept_in c.loop-permit.permits ≡ [] = search rules in
    let count = ap length (inv.2.1 ∙ ap (λ (left : List Pass). left ++ inv.2.0) none) in
    omega (arith, inv.2.3, count)
