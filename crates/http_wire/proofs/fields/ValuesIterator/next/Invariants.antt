-- The fields passed over have no value of that name.
use Rattle.std.proofs.Common.{◌≡◌, ◌-◌, length}
use Rattle.http_wire.specs.Left.{values_left}
use Rattle.http_wire.proofs.fields.ValuesIterator.next.Given as goal

abbrev pub invariant-loop-self : goal.invariant-loop-self
invariant-loop-self l =
    (values_left l.self ≡ values_left l.fn.self) × (l.self.fields ≡ l.fn.self.fields) × (l.self.name ≡ l.fn.self.name)

abbrev pub decreases-loop-self : goal.decreases-loop-self
decreases-loop-self l = length l.self.fields.now - l.self.seen
