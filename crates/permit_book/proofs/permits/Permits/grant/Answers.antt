-- The slot was free: it had nothing outstanding.
use Rattle.std.proofs.Common.{◌≡◌, ◌+◌, true, sym, subst, arith}
use Rattle.permit_book.specs.declared.out.Slot.{Slot}
use Rattle.permit_book.specs.Numbers.{slot_of}
use Rattle.permit_book.specs.Bits.{SetsBit}
use Rattle.permit_book.specs.Table.{Table, is_unspent_out}
use Rattle.permit_book.specs.Next.{is_free_in}
use Rattle.permit_book.specs.Kept.{table_of}
use Rattle.permit_book.proofs.BitLaws.{SetsBit-other, SetsBit-here}
use Rattle.permit_book.proofs.TableLaws.{IsKept-set, count-bound, free_there, nothing_unspent, nothing_running}
use Rattle.permit_book.proofs.permits.Permits.grant.Goals as goal

pub overflow_add-self : goal.overflow_add-self
overflow_add-self c = omega (arith, count-bound (λ (s : Slot). is_unspent_out s.out) c.self.inside.slots.items)

pub invariant_of-self : goal.invariant_of-self
invariant_of-self c =
    let p = c.self.inside in
    let place = slot_of c.args.number in
    let there = free_there (table_of p) place (subst (λ (t : Table). is_free_in t place ≡ true) (sym c.self.view_is) c.requires.free) in
    let taken : SetsBit p.free place 0 c.remove.new.self = rw (← c.slot.ensures.value) c.remove.ensures.bits in
    rw c.slot-2.ensures.value
    (IsKept-set (table_of p) p.free c.remove.new.self p.unspent p.running (p.unspent + 1) p.running place _ c.self.invariant there.0
    (SetsBit-other _ _ place 0 taken) (SetsBit-here _ _ place 0 taken) c.remove.ensures.room
    (rw (nothing_unspent _ there.1) (omega arith)) (rw (nothing_running _ there.1) (omega arith))
    (omega (arith, c.generation.ensures.value, c.generation.ensures.bound)))
