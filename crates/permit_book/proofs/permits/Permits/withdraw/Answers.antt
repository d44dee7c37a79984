-- The slot had an unspent permit.
use Rattle.std.proofs.Common.{◌≡◌, ◌-◌, true, sym, subst, arith, rules}
use Rattle.std.proofs.lemmas.List.{with_items_is}
use Rattle.permit_book.specs.Numbers.{slot_of}
use Rattle.permit_book.specs.Table.{Table, is_unspent, is_unspent_out}
use Rattle.permit_book.specs.Kept.{table_of, Vacates}
use Rattle.permit_book.proofs.TableLaws.{IsKept-vacated, counts_one, unspent_there}
use Rattle.permit_book.proofs.permits.Permits.withdraw.Goals as goal

pub overflow_sub-self : goal.overflow_sub-self
overflow_sub-self c =
    let p = c.self.inside in
    let there = unspent_there (table_of p) c.args.number (subst (λ (t : Table). is_unspent t c.args.number ≡ true) (sym c.self.view_is) c.requires) in
    let counted = counts_one (table_of p) (λ slot. is_unspent_out slot.out) (slot_of c.args.number) there.3 there.0 in
    omega arith

pub invariant_of-self : goal.invariant_of-self
invariant_of-self c =
    let p = c.self.inside in
    let place = slot_of c.args.number in
    let there = unspent_there (table_of p) c.args.number (subst (λ (t : Table). is_unspent t c.args.number ≡ true) (sym c.self.view_is) c.requires) in
    let counted = counts_one (table_of p) (λ slot. is_unspent_out slot.out) place there.3 there.0 in
    let ends : Vacates p.slots.items p.free place c.vacate.new.slots c.vacate.new.free = rw (← c.slot.ensures.value, ← c.deref_mut.ensures.value) c.vacate.ensures in
    rw (with_items_is p.slots c.vacate.new.slots (search rules))
    (IsKept-vacated (table_of p) p.free c.vacate.new.free c.vacate.new.slots p.unspent p.running (p.unspent - 1) p.running place c.self.invariant
    there.2 ends (rw there.0 (omega arith)) (rw there.1 (omega arith)))
