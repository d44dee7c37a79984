-- The next slot is free too.
use Rattle.permit_book.proofs.BitLaws.{AreFirst-more}
use Rattle.permit_book.proofs.permits.all_free.Goals as goal

pub loop-slot-preserved : goal.loop-slot-preserved
loop-slot-preserved c = (
  AreFirst-more c.loop-slot.free c.insert.new.self c.loop-slot.slot c.loop-slot.invariant.0 c.insert.ensures.bits,
  rw c.insert.ensures.room c.loop-slot.invariant.1,
)
