-- What the workers so far handed over, and room for the others.
-- Used by `Handover::filled`.
use Rattle.std.proofs.Common.{◌≡◌, ◌≤◌, ◌+◌, ◌++◌, length}
use Rattle.std.specs.Prelude.{map, vec_capacity, vec_len}
use Rattle.job_line.specs.Limits.{max_workers}
use Rattle.crawl_workers.proofs.handover.Handover.filled.Given as goal

abbrev pub invariant-loop-work : goal.invariant-loop-work
invariant-loop-work g l = record {
  seats_are : map (λ work. work.seat) l.fn.returned.works.items ≡ l.seats.items ++ map (λ work. work.seat) l.work-iterator.rest.items;
  drawn_are : map (λ work. work.drawn) l.fn.returned.works.items
      ≡ map (λ list. list.items) l.drawn.items ++ map (λ work. work.drawn) l.work-iterator.rest.items;
  done_are : map (λ work. work.done) l.fn.returned.works.items
      ≡ map (λ list. list.items) l.done.items ++ map (λ work. work.done) l.work-iterator.rest.items;
  many_seats : length l.fn.returned.works.items ≡ vec_len l.seats + length l.work-iterator.rest.items;
  many_drawn : length l.fn.returned.works.items ≡ vec_len l.drawn + length l.work-iterator.rest.items;
  many_done : length l.fn.returned.works.items ≡ vec_len l.done + length l.work-iterator.rest.items;
  room_seats : max_workers ≤ vec_capacity l.seats;
  room_drawn : max_workers ≤ vec_capacity l.drawn;
  room_done : max_workers ≤ vec_capacity l.done;
}
