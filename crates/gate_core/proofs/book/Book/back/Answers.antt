-- The permit is no longer outstanding.
-- `Keeping` and `Ending` say what that keeps, and what is refused.
use Rattle.std.proofs.Common.{◌≡◌, true, refl, sym, ◌∙◌, subst}
use Rattle.gate_history.specs.declared.entry.Entry.TheVariants.{Returned}
use Rattle.gate_history.specs.Outstanding.{is_unspent}
use Rattle.gate_core.specs.Gate.{Gate, history}
use Rattle.gate_core.proofs.Ending.{not_unspent}
use Rattle.gate_core.proofs.Keeping.{adds_of, reads, returned_kept}
use Rattle.gate_core.proofs.book.Book.back.Goals as goal

pub returns-then-not-is_unspent : goal.returns-then-not-is_unspent
returns-then-not-is_unspent c =
    (not_unspent c.self.inside c.self.invariant c.args.self.now c.self.view_is c.args.number (sym c.is_unspent.ensures ∙ c.if-not-is_unspent.true), refl)

pub invariant_of-self-2 : goal.invariant_of-self-2
invariant_of-self-2 c =
    returned_kept c.self.inside c.self.invariant c.push_reserved.new.self c.args.number c.give_back.new.self c.leave.new.self (c.in_ok-give_back.ensures.out.0 refl)
    c.push_reserved.ensures.items c.push_reserved.ensures.capacity c.in_ok-give_back.ensures.ok c.leave.ensures

pub returns : goal.returns
returns c =
    let out = sym ((reads c.self.inside c.self.invariant c.self.inside.entries).unspent_numbers c.args.number) ∙ c.in_ok-give_back.ensures.out.0 refl in (
      subst (λ (g : Gate). is_unspent (history g) c.args.number ≡ true) c.self.view_is out,
      adds_of c.self.inside c.args.self.now (Returned c.args.number) c.push_reserved.new.self.items c.self.view_is c.push_reserved.ensures.items out,
    )
