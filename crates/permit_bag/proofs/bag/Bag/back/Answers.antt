-- The permit taken out and the permits left are of the desk.
use Rattle.std.proofs.Common.{sym, ap, ◌∙◌, length, arith}
use Rattle.numbered_store.specs.Stores.{kept_in}
use Rattle.gate_lock.specs.Desks.{Pass}
use Rattle.permit_bag.proofs.Holding.{less}
use Rattle.permit_bag.proofs.bag.Bag.back.Goals as goal

pub back-requires : goal.back-requires
back-requires g c =
    let own = less (λ (p : Pass). p.desk) c.self.inside.desk (kept_in c.self.inside.permits) (kept_in c.remove-permit.new.self) c.remove-permit.result c.remove-permit.ensures.left c.self.invariant.0 in
    own.1 ∙ ap (λ b. b.desk) c.self.view_is ∙ sym c.requires

pub invariant_of-self : goal.invariant_of-self
invariant_of-self g c =
    let own = less (λ (p : Pass). p.desk) c.self.inside.desk (kept_in c.self.inside.permits) (kept_in c.remove-permit.new.self) c.remove-permit.result c.remove-permit.ensures.left c.self.invariant.0 in
    (own.0, c.self.invariant.1, omega (arith, own.2, c.self.invariant.2))

pub returns-clause-out : goal.returns-clause-out
returns-clause-out g c =
    let own = less (λ (p : Pass). p.desk) c.self.inside.desk (kept_in c.self.inside.permits) (kept_in c.remove-permit.new.self) c.remove-permit.result c.remove-permit.ensures.left c.self.invariant.0 in
    let out = c.back.ensures.out in
    omega (arith, own.2, out.permits_are, out.runs_are, out.turns_are, ap (λ b. length b.permits) c.self.view_is, ap (λ b. length b.runs) c.self.view_is)
