-- The permit runs from now on.
-- `Keeping` says what that keeps.
use Rattle.std.proofs.Common.{Ok, sym, subst, arith}
use Rattle.gate_history.specs.declared.entry.Entry.TheVariants.{Started}
use Rattle.gate_history.specs.Legal.{MayFollow, SpendsAs}
use Rattle.gate_core.specs.Gate.{Gate, history}
use Rattle.gate_core.proofs.Keeping.{entries_many, few_starts, spends_out, spends_some, started_kept}
use Rattle.gate_core.proofs.book.Book.enter_start.Goals as goal

pub decide-requires : goal.decide-requires
decide-requires c =
    spends_out c.self.inside c.self.invariant c.self.inside.entries c.args.number c.args.moment (Ok c.args.reason)
    (subst (λ (g : Gate). SpendsAs (history g) c.args.number c.args.moment (Ok c.args.reason)) (sym c.self.view_is) c.requires.spends)

pub invariant_of-self : goal.invariant_of-self
invariant_of-self c =
    let fit = subst (λ (g : Gate). MayFollow (history g) (Started c.args.moment c.args.number c.args.reason)) (sym c.self.view_is) (c.requires.late, c.requires.spends) in
    started_kept c.self.inside c.self.invariant c.push_reserved.new.self c.args.moment c.args.number c.args.reason c.decide.new.self fit
    (spends_out c.self.inside c.self.invariant c.self.inside.entries c.args.number c.args.moment (Ok c.args.reason) fit.1)
    c.push_reserved.ensures.items c.push_reserved.ensures.capacity c.decide.ensures

pub overflow_add-self : goal.overflow_add-self
overflow_add-self c =
    let b = c.self.inside in
    let many = entries_many b c.self.invariant in
    let few = few_starts b c.self.invariant in
    let logged = c.self.invariant.logged in
    let sealed = c.self.invariant.sealed in
    let spends = subst (λ (g : Gate). SpendsAs (history g) c.args.number c.args.moment (Ok c.args.reason)) (sym c.self.view_is) c.requires.spends in
    let some = spends_some b c.self.invariant b.entries c.args.number c.args.moment (Ok c.args.reason) spends in
    omega (arith, many, few, logged, sealed, some)
