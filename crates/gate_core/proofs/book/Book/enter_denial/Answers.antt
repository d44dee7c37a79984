-- The permit is spent.
-- `Keeping` says what that keeps.
use Rattle.std.proofs.Common.{Err, sym, subst}
use Rattle.gate_history.specs.declared.entry.Entry.TheVariants.{StartDenied}
use Rattle.gate_history.specs.Legal.{MayFollow, SpendsAs}
use Rattle.gate_core.specs.Gate.{Gate, history}
use Rattle.gate_core.proofs.Keeping.{denied_kept, spends_out}
use Rattle.gate_core.proofs.book.Book.enter_denial.Goals as goal

pub decide-requires : goal.decide-requires
decide-requires c =
    spends_out c.self.inside c.self.invariant c.self.inside.entries c.args.number c.args.moment (Err c.args.cause)
    (subst (λ (g : Gate). SpendsAs (history g) c.args.number c.args.moment (Err c.args.cause)) (sym c.self.view_is) c.requires.spends)

pub invariant_of-self : goal.invariant_of-self
invariant_of-self c =
    let fit = subst (λ (g : Gate). MayFollow (history g) (StartDenied c.args.moment c.args.number c.args.cause)) (sym c.self.view_is) (c.requires.late, c.requires.spends) in
    denied_kept c.self.inside c.self.invariant c.push_reserved.new.self c.args.moment c.args.number c.args.cause c.decide.new.self c.leave.new.self fit
    (spends_out c.self.inside c.self.invariant c.self.inside.entries c.args.number c.args.moment (Err c.args.cause) fit.1)
    c.push_reserved.ensures.items c.push_reserved.ensures.capacity c.decide.ensures c.leave.ensures
