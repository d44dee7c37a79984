-- What the other workers return comes behind what is taken, and there is room for it.
-- Used by `take_all`.
use Rattle.std.proofs.Common.{◌≡◌, ◌≤◌, ◌+◌, ◌++◌, Some, length}
use Rattle.std.specs.Prelude.{All, vec_capacity, vec_len}
use Rattle.std.specs.Option.{IsSome}
use Rattle.worker_pool.specs.Pools.{FailsFirst, ReturnEach}
use Rattle.worker_pool.proofs.pool.take_all.Given as goal

abbrev pub invariant-loop-slot : goal.invariant-loop-slot
invariant-loop-slot g l = record {
  ended : All (λ slot. IsSome slot.end) l.slot-iterator.rest.items;
  all : (works : _) (receipts : _) → ReturnEach (λ slot end. slot.end ≡ Some end) l.slot-iterator.rest.items works receipts
      → ReturnEach (λ slot end. slot.end ≡ Some end) l.fn.slots.items (l.returned.works.items ++ works) (l.returned.receipts.items ++ receipts);
  first : (fault : _) → FailsFirst (λ slot end. slot.end ≡ Some end) l.slot-iterator.rest.items fault
      → FailsFirst (λ slot end. slot.end ≡ Some end) l.fn.slots.items fault;
  many_works : length l.fn.slots.items ≡ vec_len l.returned.works + length l.slot-iterator.rest.items;
  many_receipts : length l.fn.slots.items ≡ vec_len l.returned.receipts + length l.slot-iterator.rest.items;
  room : (length l.fn.slots.items ≤ vec_capacity l.returned.works) × (length l.fn.slots.items ≤ vec_capacity l.returned.receipts);
}
