-- The slots so far are free, and there is room for the others.
use Rattle.std.proofs.Common.{◌*◌, ◌≤◌, length}
use Rattle.permit_book.specs.Bits.{AreFirst}
use Rattle.permit_book.proofs.permits.all_free.Given as goal

abbrev pub invariant-loop-slot : goal.invariant-loop-slot
invariant-loop-slot l = AreFirst l.free l.slot × (l.count ≤ 64 * length l.free)
