-- The fetch taken out and the fetches left are of the desk.
use Rattle.std.proofs.Common.{sym, ap, ◌∙◌, length, arith}
use Rattle.numbered_store.specs.Stores.{kept_in}
use Rattle.gate_lock.specs.Desks.{Run}
use Rattle.permit_bag.proofs.Holding.{less}
use Rattle.permit_bag.proofs.bag.Bag.finish.Goals as goal

pub finish-requires : goal.finish-requires
finish-requires g c =
    let own = less (λ (r : Run). r.pass.desk) c.self.inside.desk (kept_in c.self.inside.runs) (kept_in c.remove-run.new.self) c.remove-run.result c.remove-run.ensures.left c.self.invariant.1 in
    ap (λ p. p.desk) c.spend.ensures ∙ own.1 ∙ ap (λ b. b.desk) c.self.view_is ∙ sym c.requires

pub invariant_of-self : goal.invariant_of-self
invariant_of-self g c =
    let own = less (λ (r : Run). r.pass.desk) c.self.inside.desk (kept_in c.self.inside.runs) (kept_in c.remove-run.new.self) c.remove-run.result c.remove-run.ensures.left c.self.invariant.1 in
    (c.self.invariant.0, own.0, omega (arith, c.self.invariant.2, c.remove-run.ensures.room))

pub returns-clause-out : goal.returns-clause-out
returns-clause-out g c =
    let own = less (λ (r : Run). r.pass.desk) c.self.inside.desk (kept_in c.self.inside.runs) (kept_in c.remove-run.new.self) c.remove-run.result c.remove-run.ensures.left c.self.invariant.1 in
    let out = c.finish.ensures.out in
    omega (arith, own.2, out.permits_are, out.runs_are, out.turns_are, ap (λ b. length b.permits) c.self.view_is, ap (λ b. length b.runs) c.self.view_is)
