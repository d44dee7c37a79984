-- The rule is kept as a seat is dealt.
-- Used by `JobLine::deal`.
use Rattle.std.proofs.Common.{◌∙◌, ap, sym, arith}
use Rattle.job_line.specs.Covers.{SeatView}
use Rattle.job_line.proofs.Plays.{splits_deal}
use Rattle.job_line.proofs.SiteLemmas.{none_ended}
use Rattle.job_line.proofs.line.JobLine.deal.Goals as goal

pub split_seat-requires : goal.split_seat-requires
split_seat-requires c =
    let parts = ap (λ (seat : SeatView). seat.parts) c.seat.view_is in (
      ap (λ (seat : SeatView). seat.line) c.seat.view_is ∙ c.requires.line ∙ sym c.self.view_is,
      c.self.invariant.some_word,
      splits_deal _ _ _ (omega (arith, c.requires.parts, parts)) (λ site. c.seat.invariant.goes site (none_ended _ _ site (ap (λ (seat : SeatView). seat.ended) c.seat.view_is ∙ c.requires.goes))),
    )
