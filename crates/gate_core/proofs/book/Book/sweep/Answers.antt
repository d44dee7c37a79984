-- The answers that the history says are gone are gone.
-- `Keeping` says what that keeps.
use Rattle.std.proofs.Common.{◌∷◌, ◌++◌, [], ℕ, sym, ap, ◌∙◌, subst, arith}
use Rattle.gate_history.specs.declared.entry.Entry.TheVariants.{Swept}
use Rattle.gate_history.specs.Standing.{past_count}
use Rattle.gate_core.specs.Gate.{Adds, Gate, HasRoom, history, promised}
use Rattle.gate_core.proofs.Keeping.{adds_of, late_moment, swept_kept, swept_many}
use Rattle.gate_core.proofs.book.Book.sweep.Goals as goal

pub invariant_of-self-2 : goal.invariant_of-self-2
invariant_of-self-2 c =
    let b = c.self.inside in
    let moment = c.moment_of_call-moment.result in
    let late = late_moment b c.args.self.now c.self.view_is c.args.moment moment c.moment_of_call-moment.ensures in
    let free = subst (λ (g : Gate). HasRoom g 1) (sym c.self.view_is) (c.has_room.ensures.0 c.if-not-has_room.false) in
    swept_kept b c.self.invariant c.push_reserved.new.self c.sweep-count.new.self b.names moment c.sweep-count.result late
    (swept_many b c.self.invariant moment c.sweep-count.result c.sweep-count.new.self c.sweep-count.ensures.swept c.sweep-count.ensures.apart) c.sweep-count.ensures.swept
    (c.push_reserved.ensures.items ∙ ap (λ es. es ++ Swept moment c.sweep-count.result ∷ []) c.in_ok-reserve.ensures.items)
    (omega (arith, c.push_reserved.ensures.capacity, c.in_ok-reserve.ensures.ok, c.promised-promised.ensures.value, ap (λ (g : Gate). promised (history g)) c.self.view_is)) free

pub returns : goal.returns
returns c =
    let b = c.self.inside in
    let moment = c.moment_of_call-moment.result in
    let late = late_moment b c.args.self.now c.self.view_is c.args.moment moment c.moment_of_call-moment.ensures in
    let count = swept_many b c.self.invariant moment c.sweep-count.result c.sweep-count.new.self c.sweep-count.ensures.swept c.sweep-count.ensures.apart in
    let entries = c.push_reserved.ensures.items ∙ ap (λ es. es ++ Swept moment c.sweep-count.result ∷ []) c.in_ok-reserve.ensures.items in
    let adds = adds_of b c.args.self.now (Swept moment c.sweep-count.result) c.push_reserved.new.self.items c.self.view_is entries (late, count) in (
      c.has_room.ensures.0 c.if-not-has_room.false,
      count ∙ (λ i. past_count (history (c.self.view_is i)) (c.moment_of_call-moment.ensures i)),
      subst (λ (m : ℕ). Adds c.args.self.now (Swept m c.sweep-count.result) (record { limits = b.limits; base = b.base; entries = c.push_reserved.new.self.items })) c.moment_of_call-moment.ensures adds,
    )
