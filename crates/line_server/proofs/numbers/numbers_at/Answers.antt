-- The next seat is of the line, as all remaining ones are.
-- Used by `numbers_at`.
use Rattle.std.proofs.Common.{◌≡◌, subst}
use Rattle.std.specs.Prelude.{All}
use Rattle.std.proofs.lemmas.List.Elements.{All-head, All-tail}
use Rattle.job_line.specs.Covers.{SeatView}
use Rattle.line_server.proofs.numbers.numbers_at.Goals as goal

pub invariant_of-of_seat : goal.invariant_of-of_seat
invariant_of-of_seat c =
    let own = subst (All (λ (seat : SeatView). seat.line ≡ c.args.line.now)) c.in-Some.ensures.steps.0 c.loop-seat.invariant.own in
    record { is_of = All-head (λ (seat : SeatView). seat.line ≡ c.args.line.now) c.in-Some.seat c.next.new.self.rest.items own }

pub loop-seat-preserved : goal.loop-seat-preserved
loop-seat-preserved c =
    let own = subst (All (λ (seat : SeatView). seat.line ≡ c.args.line.now)) c.in-Some.ensures.steps.0 c.loop-seat.invariant.own in
    record { own = All-tail (λ (seat : SeatView). seat.line ≡ c.args.line.now) c.in-Some.seat c.next.new.self.rest.items own }
