-- The permit put in and the other permits are of the desk.
use Rattle.std.proofs.Common.{rules, sym, ap, ◌∙◌, length, arith}
use Rattle.numbered_store.specs.Stores.{kept_in}
use Rattle.gate_lock.specs.Desks.{Pass}
use Rattle.permit_bag.proofs.Holding.{more, ok_then}
use Rattle.permit_bag.proofs.bag.Bag.keep.Goals as goal

pub invariant_of-self : goal.invariant_of-self
invariant_of-self g c =
    let desk = c.requires ∙ sym c.make_room.ensures.same.desk_is ∙ sym (ap (λ b. b.desk) c.self.view_is) in
    let own = more (λ (p : Pass). p.desk) c.self.inside.desk (kept_in c.self.inside.permits) (kept_in c.put.new.self) c.args.permit c.put.ensures.kept c.self.invariant.0 desk in
    let room = ok_then c.make_room.result (sym c.is_err.ensures.value ∙ c.if-is_err.false) c.make_room.ensures.ok in
    (own.0, c.self.invariant.1, omega (arith, own.1, room, ap (λ b. b.room) c.self.view_is))

pub returns-clause-ok : goal.returns-clause-ok
returns-clause-ok g c =
    let same = c.make_room.ensures.same in
    let desk = c.requires ∙ sym same.desk_is ∙ sym (ap (λ b. b.desk) c.self.view_is) in
    let own = more (λ (p : Pass). p.desk) c.self.inside.desk (kept_in c.self.inside.permits) (kept_in c.put.new.self) c.args.permit c.put.ensures.kept c.self.invariant.0 desk in
    record {
      gains = search rules;
      one_more = omega (arith, own.1, ap length same.permits_are, ap length same.runs_are, ap (λ b. length b.permits) c.self.view_is, ap (λ b. length b.runs) c.self.view_is);
    }
