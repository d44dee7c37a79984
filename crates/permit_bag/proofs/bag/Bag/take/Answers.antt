-- The permit taken out and the permits left are of the desk.
use Rattle.std.proofs.Common.{◌∙◌, ap, length, arith}
use Rattle.numbered_store.specs.Stores.{kept_in}
use Rattle.gate_lock.specs.Desks.{Pass}
use Rattle.permit_bag.proofs.Holding.{less}
use Rattle.permit_bag.proofs.bag.Bag.take.Goals as goal

pub invariant_of-self : goal.invariant_of-self
invariant_of-self g c =
    let own = less (λ (p : Pass). p.desk) c.self.inside.desk (kept_in c.self.inside.permits) (kept_in c.remove.new.self) c.remove.result c.remove.ensures.left c.self.invariant.0 in
    (own.0, c.self.invariant.1, omega (arith, own.2, c.self.invariant.2))

pub returns-clause-own : goal.returns-clause-own
returns-clause-own g c =
    let own = less (λ (p : Pass). p.desk) c.self.inside.desk (kept_in c.self.inside.permits) (kept_in c.remove.new.self) c.remove.result c.remove.ensures.left c.self.invariant.0 in
    own.1 ∙ ap (λ b. b.desk) c.self.view_is

pub returns-clause-count : goal.returns-clause-count
returns-clause-count g c =
    let own = less (λ (p : Pass). p.desk) c.self.inside.desk (kept_in c.self.inside.permits) (kept_in c.remove.new.self) c.remove.result c.remove.ensures.left c.self.invariant.0 in
    omega (arith, own.2, ap (λ b. length b.permits) c.self.view_is, ap (λ b. length b.runs) c.self.view_is)
