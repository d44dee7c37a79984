-- All slots are free.
use Rattle.permit_book.proofs.TableLaws.{IsKept-new}
use Rattle.permit_book.proofs.permits.Permits.with_slots.Goals as goal

pub invariant_of-result : goal.invariant_of-result
invariant_of-result c =
    rw c.in_ok-unused_slots.ensures
    (IsKept-new c.args.slots c.args.first_generation c.in_ok-all_free.field-0 c.requires.slots c.requires.first c.requires.last
    c.in_ok-all_free.ensures.bits c.in_ok-all_free.ensures.room)
