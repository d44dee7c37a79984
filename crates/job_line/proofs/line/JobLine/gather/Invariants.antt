-- The seats so far were taken in, and their lists are kept.
-- Used by `JobLine::gather`.
use Rattle.std.proofs.Common.{◌≡◌, ◌≤◌, ◌++◌, List, length}
use Rattle.std.specs.Prelude.{map, vec_len, vec_capacity}
use Rattle.job_line.specs.Covers.{SeatView, lists_of}
use Rattle.job_line.specs.Seats.{HasTaken}
use Rattle.job_line.proofs.line.JobLine.gather.Given as goal

abbrev pub invariant-loop-seat : goal.invariant-loop-seat
invariant-loop-seat l = record {
  taken : List SeatView;
  all : l.fn.seats.items ≡ taken ++ l.seat-iterator.rest.items;
  has : HasTaken l.table.shared.table_id l.hand.table_id l.hand.me taken;
  lists : map (λ list. list.items) l.lists.items ≡ lists_of taken;
  count : vec_len l.lists ≡ length taken;
  room : 16 ≤ vec_capacity l.lists;
}
