-- The next number is granted.
-- `Keeping` and `Refusing` say what that keeps, and what is refused.
use Rattle.std.proofs.Common.{◌∷◌, ◌++◌, [], sym, ap, ◌∙◌, subst, arith, Err}
use Rattle.gate_history.specs.declared.entry.Entry.TheVariants.{Granted}
use Rattle.gate_core.specs.Gate.{Gate, HasRoom, history, promised}
use Rattle.gate_core.specs.Opened.{Grants}
use Rattle.gate_core.specs.Replies.{IsNext}
use Rattle.gate_core.proofs.Keeping.{adds_of, granted_kept, kept_refused, next_is}
use Rattle.gate_core.proofs.Refusing.{grant_fits, has_place, refuses_grant, same_err}
use Rattle.gate_core.proofs.book.Book.grant.Goals as goal

pub take_permit-requires : goal.take_permit-requires
take_permit-requires c =
    c.self.invariant.limits.places

pub invariant_of-self-in_err-number : goal.invariant_of-self-in_err-number
invariant_of-self-in_err-number c =
    kept_refused c.self.inside c.self.invariant c.reserve.new.self c.take_permit.new.permits c.take_permit.new.places
    c.in_ok-reserve.ensures.items c.reserve.ensures.capacity c.in_err-number.ensures.err.same c.in_err-number.ensures.err.uncounted

pub returns-in_err-number : goal.returns-in_err-number
returns-in_err-number c =
    let b = c.self.inside in
    let refusal = c.in_err-number.field-0.0 in
    let g = c.args.self.now in
    subst (λ r. Grants g c.args.fetch.token c.args.fetch.url c.args.moment r (record { limits = b.limits; base = b.base; entries = c.reserve.new.self.items }))
    (sym (same_err c.from_residual-in_err-number.result refusal c.from_residual-in_err-number.ensures.0 c.from_residual-in_err-number.ensures.1))
    (subst (λ es. Grants g c.args.fetch.token c.args.fetch.url c.args.moment (Err refusal) (record { limits = b.limits; base = b.base; entries = es })) (sym c.in_ok-reserve.ensures.items)
    (refuses_grant b c.self.invariant g c.self.view_is c.args.fetch.token c.args.fetch.url c.args.moment refusal c.in_err-number.ensures.err.refused))

pub invariant_of-self-2 : goal.invariant_of-self-2
invariant_of-self-2 c =
    let b = c.self.inside in
    let number = c.in_ok-number.number in
    let fetch = c.args.fetch in
    let taken = c.in_ok-number.ensures.ok in
    let fit = grant_fits b c.self.invariant c.args.self.now c.self.view_is c.args.moment number fetch c.requires.late c.requires.decided taken.next in
    let free = subst (λ (g : Gate). HasRoom g 3) (sym c.self.view_is) c.requires.room in
    granted_kept b c.self.invariant c.push_reserved.new.self c.args.moment number fetch c.take_permit.new.permits c.take_permit.new.places fit taken.next
    (c.push_reserved.ensures.items ∙ ap (λ es. es ++ Granted c.args.moment number fetch ∷ []) c.in_ok-reserve.ensures.items)
    (omega (arith, c.push_reserved.ensures.capacity, c.in_ok-reserve.ensures.ok, c.promised-promised.ensures.value, ap (λ (g : Gate). promised (history g)) c.self.view_is)) free taken.granted taken.counted

pub returns : goal.returns
returns c =
    let b = c.self.inside in
    let number = c.in_ok-number.number in
    let fetch = c.args.fetch in
    let taken = c.in_ok-number.ensures.ok in
    let fit = grant_fits b c.self.invariant c.args.self.now c.self.view_is c.args.moment number fetch c.requires.late c.requires.decided taken.next in (
      has_place b c.self.invariant c.args.self.now c.self.view_is c.args.fetch.url taken.place,
      subst (λ (g : Gate). IsNext g number) c.self.view_is (next_is b c.self.invariant b.entries number taken.next),
      adds_of b c.args.self.now (Granted c.args.moment number fetch) c.push_reserved.new.self.items c.self.view_is
          (c.push_reserved.ensures.items ∙ ap (λ es. es ++ Granted c.args.moment number fetch ∷ []) c.in_ok-reserve.ensures.items) fit,
    )
