-- The list has the permits at the stage of the slots so far.
use Rattle.std.proofs.Common.{◌≡◌, take}
use Rattle.permit_book.specs.Outstanding.{listed_in}
use Rattle.permit_book.proofs.ListedPermits.{all_from}
use Rattle.permit_book.proofs.permits.Permits.permits_at.Given as goal

abbrev pub invariant-loop-place : goal.invariant-loop-place
invariant-loop-place l = l.permits.items ≡ all_from (listed_in l.stage) 0 (take l.place l.self.slots)
