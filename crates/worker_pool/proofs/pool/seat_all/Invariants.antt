-- The seats so far have a slot each, and there is room for the others.
-- Used by `seat_all`.
use Rattle.std.proofs.Common.{◌≡◌, ◌≤◌, ◌+◌, ◌++◌, Some, length}
use Rattle.std.specs.Prelude.{map, vec_capacity, vec_len}
use Rattle.worker_pool.proofs.pool.seat_all.Given as goal

abbrev pub invariant-loop-seat : goal.invariant-loop-seat
invariant-loop-seat g l = record {
  all : map Some l.fn.seats.items ≡ map (λ slot. slot.seat) l.slots.items ++ map Some l.seat-iterator.rest.items;
  many : length l.fn.seats.items ≡ vec_len l.slots + length l.seat-iterator.rest.items;
  room : length l.fn.seats.items ≤ vec_capacity l.slots;
}
