-- The rounds of a gate's maintenance so far.
-- Used by the proof of `Server::go_round`.
use Rattle.std.proofs.Common.{◌≡◌, ℕ, suc, ap, subst, ◌∙◌}
use Rattle.gate_lock.specs.Desks.{DeskView}
use Rattle.command_server.specs.Readings.{next_reading, reading_after}
use Rattle.line_server.specs.Sweeping.{GoesRoundsTo, MaySweep}

-- some rounds are done, and the next reading has this number
pub record HasGone (reads : ℕ → ℕ → Type 0) (d d2 : DeskView) (number : ℕ) : Type 0 where
  pub rounds : ℕ
  pub number_is : number ≡ reading_after (suc rounds)
  pub gone : GoesRoundsTo reads rounds d d2

pub one_gone : (reads : ℕ → ℕ → Type 0) (d between d2 : DeskView) (number number_new : ℕ) →
    HasGone reads d between number → MaySweep (reads number) between d2 → number_new ≡ next_reading number → HasGone reads d d2 number_new
one_gone reads d between d2 number number_new has sweeps is = record {
  rounds = suc has.rounds;
  number_is = is ∙ ap next_reading has.number_is;
  gone = (between, (has.gone, subst (λ n. MaySweep (reads n) between d2) has.number_is sweeps));
}
