-- The slot had an unspent permit, whose fetch runs now.
use Rattle.std.proofs.Common.{◌≡◌, ◌+◌, ◌-◌, true, refl, sym, subst, arith}
use Rattle.std.proofs.lemmas.List.{get_or_read}
use Rattle.permit_book.specs.declared.out.Slot.{Slot}
use Rattle.permit_book.specs.Numbers.{slot_of}
use Rattle.permit_book.specs.Table.{Table, is_running_out, is_unspent, is_unspent_out, slot_at, unused}
use Rattle.permit_book.specs.Kept.{table_of}
use Rattle.permit_book.proofs.TableLaws.{IsKept-started, counts_one, count-bound, unspent_there}
use Rattle.permit_book.proofs.permits.Permits.run.Goals as goal

pub overflow_sub-self : goal.overflow_sub-self
overflow_sub-self c =
    let p = c.self.inside in
    let there = unspent_there (table_of p) c.args.number (subst (λ (t : Table). is_unspent t c.args.number ≡ true) (sym c.self.view_is) c.requires) in
    let counted = counts_one (table_of p) (λ slot. is_unspent_out slot.out) (slot_of c.args.number) there.3 there.0 in
    omega arith

pub overflow_add-self : goal.overflow_add-self
overflow_add-self c = omega (arith, count-bound (λ (s : Slot). is_running_out s.out) c.self.inside.slots.items)

pub invariant_of-self : goal.invariant_of-self
invariant_of-self c =
    let p = c.self.inside in
    let place = slot_of c.args.number in
    let there = unspent_there (table_of p) c.args.number (subst (λ (t : Table). is_unspent t c.args.number ≡ true) (sym c.self.view_is) c.requires) in
    let counted = counts_one (table_of p) (λ slot. is_unspent_out slot.out) place there.3 there.0 in
    let read : c.index_mut.result.now ≡ slot_at (table_of p) place =
    get_or_read p.slots.items place c.index_mut.result.now there.3 (rw (← c.slot.ensures.value) c.index_mut.ensures.value) unused in
    rw (c.slot.ensures.value, c.start.ensures)
    (IsKept-started (table_of p) p.free p.unspent p.running (p.unspent - 1) (p.running + 1) place c.index_mut.result.now c.self.invariant there.0 read
    (omega arith) refl)
