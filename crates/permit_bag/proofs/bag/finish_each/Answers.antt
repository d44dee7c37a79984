-- Each step spends the last one left, so those spent are the last ones.
use Rattle.std.proofs.Common.{◌≡◌, ◌++◌, [], ◌∷◌, List, ap, ◌∙◌, append_assoc, length, rules, subst, sym, arith}
use Rattle.std.proofs.lemmas.List.Elements.{All-pop}
use Rattle.numbered_store.specs.Stores.{kept_in}
use Rattle.permit_bag.specs.Bags.{FinishesEach}
use Rattle.gate_lock.specs.Desks.{Pass, Run}
use Rattle.gate_lock.specs.Steps.{DeskFinishes, Somewhere}
use Rattle.permit_bag.proofs.bag.finish_each.Goals as goal

pub loop-run-preserved : goal.loop-run-preserved
loop-run-preserved g c =
    let inv = c.loop-run.invariant in
    let left = All-pop (λ (p : Run). p.pass.desk ≡ c.args.desk.now.no) _ _ c.pop.result c.pop.ensures.kept inv.1 in
    let out = c.finish.ensures.out in
    let done = inv.2.0 in (
      c.finish.ensures.no ∙ inv.0,
      left.0,
      (
        c.in-Some.run' ∷ done,
        inv.2.1 ∙ ap (λ (kept : List Run). kept ++ done) c.in-Some.ensures.kept ∙ append_assoc (kept_in c.pop.new.self) (c.in-Some.run' ∷ []) done,
        (c.loop-run.desk, inv.2.2, subst (λ (p : Pass). Somewhere c.loop-run.desk (λ old new. DeskFinishes c.loop-run.desk old p.number new c.finish.new.self)) c.spend.ensures c.finish.ensures.step),
        omega (arith, inv.2.3, out.permits_are, out.runs_are, out.turns_are),
      ),
    )

pub returns-clause-step : goal.returns-clause-step
returns-clause-step g c =
    let inv = c.loop-run.invariant in
    let none : kept_in c.loop-run.runs ≡ [] = search rules in
    subst (λ (all : List Run). FinishesEach c.args.desk.now all c.loop-run.desk) (sym (inv.2.1 ∙ ap (λ (left : List Run). left ++ inv.2.0) none)) inv.2.2

pub returns-clause-out : goal.returns-clause-out
returns-clause-out g c =
    let inv = c.loop-run.invariant in
    let none : kept_in c.loop-run.runs ≡ [] = search rules in
    let count = ap length (inv.2.1 ∙ ap (λ (left : List Run). left ++ inv.2.0) none) in
    omega (arith, inv.2.3, count)
