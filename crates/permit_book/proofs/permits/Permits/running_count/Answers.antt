-- A count of slots is at most that of all.
use Rattle.std.proofs.Common.{arith}
use Rattle.permit_book.specs.declared.out.Slot.{Slot}
use Rattle.permit_book.specs.Table.{is_running_out}
use Rattle.permit_book.proofs.TableLaws.{count-bound}
use Rattle.permit_book.proofs.permits.Permits.running_count.Goals as goal

pub returns-clause-bound : goal.returns-clause-bound
returns-clause-bound c = omega (arith, count-bound (λ (s : Slot). is_running_out s.out) c.self.inside.slots.items)
