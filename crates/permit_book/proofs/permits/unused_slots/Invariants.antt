-- This many slots, and room for the others.
use Rattle.std.proofs.Common.{◌≡◌, ◌≤◌, replicate, vec_capacity}
use Rattle.permit_book.specs.Table.{unused}
use Rattle.permit_book.proofs.permits.unused_slots.Given as goal

abbrev pub invariant-loop : goal.invariant-loop
invariant-loop l = (l.slots.items ≡ replicate l.counter unused) × (l.count ≤ vec_capacity l.slots)
