-- The remaining seats are all of the line.
-- Used by `numbers_at`.
use Rattle.std.proofs.Common.{◌≡◌}
use Rattle.std.specs.Prelude.{All}
use Rattle.job_line.specs.Covers.{SeatView}
use Rattle.line_server.proofs.numbers.numbers_at.Given as goal

abbrev pub invariant-loop-seat : goal.invariant-loop-seat
invariant-loop-seat l = record {
  own : All (λ (seat : SeatView). seat.line ≡ l.fn.line) l.seat-iterator.rest.items;
}
