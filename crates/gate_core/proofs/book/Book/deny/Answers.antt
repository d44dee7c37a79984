-- A denied ask is an entry, and else nothing changes.
-- `Keeping` says what that keeps.
use Rattle.std.proofs.Common.{◌∷◌, ◌++◌, [], sym, ap, ◌∙◌, subst, arith, Err}
use Rattle.permit_book.specs.declared.out.Fetch.{Fetch}
use Rattle.gate_history.specs.declared.entry.Entry.TheVariants.{AskDenied}
use Rattle.gate_history.specs.Cause.{Decides}
use Rattle.gate_history.specs.Legal.{MayFollow}
use Rattle.gate_core.specs.Gate.{Gate, HasRoom, history, promised}
use Rattle.gate_core.proofs.Keeping.{ask_denied_kept}
use Rattle.gate_core.proofs.book.Book.deny.Goals as goal

pub invariant_of-self-2 : goal.invariant_of-self-2
invariant_of-self-2 c =
    let b = c.self.inside in
    let fetch = c.in_ok-entered.entered in
    let decided = subst (λ (f : Fetch). Decides (history c.args.self.now) f.token f.url c.args.moment (Err c.args.cause)) (sym c.in_ok-entered.ensures) c.requires.decided in
    let fit = subst (λ (g : Gate). MayFollow (history g) (AskDenied c.args.moment fetch c.args.cause)) (sym c.self.view_is) (c.requires.late, decided) in
    let free = subst (λ (g : Gate). HasRoom g 3) (sym c.self.view_is) c.requires.room in
    ask_denied_kept b c.self.invariant c.push_reserved.new.self c.args.moment fetch c.args.cause fit
    (c.push_reserved.ensures.items ∙ ap (λ es. es ++ AskDenied c.args.moment fetch c.args.cause ∷ []) c.in_ok-reserve.ensures.items)
    (omega (arith, c.push_reserved.ensures.capacity, c.in_ok-reserve.ensures.ok, c.promised-promised.ensures.value, ap (λ (g : Gate). promised (history g)) c.self.view_is)) free
