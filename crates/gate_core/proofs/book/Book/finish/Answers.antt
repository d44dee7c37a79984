-- The permit is no longer outstanding.
-- `Keeping` and `Ending` say what that keeps, and what is refused.
use Rattle.std.proofs.Common.{◌≡◌, true, refl, sym, ◌∙◌, subst}
use Rattle.gate_history.specs.declared.entry.Entry.TheVariants.{Finished}
use Rattle.gate_history.specs.Outstanding.{is_running}
use Rattle.gate_core.specs.Gate.{Gate, history}
use Rattle.gate_core.proofs.Ending.{not_running}
use Rattle.gate_core.proofs.Keeping.{adds_of, reads, finished_kept}
use Rattle.gate_core.proofs.book.Book.finish.Goals as goal

pub returns-then-not-is_running : goal.returns-then-not-is_running
returns-then-not-is_running c =
    (not_running c.self.inside c.self.invariant c.args.self.now c.self.view_is c.args.number (sym c.is_running.ensures ∙ c.if-not-is_running.true), refl)

pub invariant_of-self-2 : goal.invariant_of-self-2
invariant_of-self-2 c =
    finished_kept c.self.inside c.self.invariant c.push_reserved.new.self c.args.number c.finish.new.self c.leave.new.self (c.in_ok-finish.ensures.out.0 refl)
    c.push_reserved.ensures.items c.push_reserved.ensures.capacity c.in_ok-finish.ensures.ok c.leave.ensures

pub returns : goal.returns
returns c =
    let out = sym ((reads c.self.inside c.self.invariant c.self.inside.entries).running_numbers c.args.number) ∙ c.in_ok-finish.ensures.out.0 refl in (
      subst (λ (g : Gate). is_running (history g) c.args.number ≡ true) c.self.view_is out,
      adds_of c.self.inside c.args.self.now (Finished c.args.number) c.push_reserved.new.self.items c.self.view_is c.push_reserved.ensures.items out,
    )
