-- What callers cite of counts, and of a line of one site.
use Rattle.std.proofs.Common.{◌≡◌, ℕ, zero, suc, ◌+◌, ◌<◌, ◌≤◌, true, List, [], ◌∷◌, length, replicate, refl, ◌∙◌, arith}
use Rattle.std.specs.Prelude.{slice_index, slice_set}
use Rattle.job_line.specs.Sums.{jobs_in, weigh_all, weigh_below, weigh_firsts}
use Rattle.job_line.specs.Covers.{Covers, SeatView, end_found, lists_of}

pub jobs_in-none : (sites : ℕ) → jobs_in (replicate sites 0) ≡ 0
jobs_in-none zero = refl
jobs_in-none (suc sites) = let later = jobs_in-none sites in omega (arith, later)

pub jobs_in-raise : (counts : List ℕ) (site : ℕ) → site < length counts → jobs_in (slice_set counts site (slice_index counts site + 1)) ≡ jobs_in counts + 1
jobs_in-raise [] site there = absurd (omega (arith, there))
jobs_in-raise (count ∷ counts) zero there = omega arith
jobs_in-raise (count ∷ counts) (suc site) there = let later = jobs_in-raise counts site (omega (arith, there)) in omega (arith, later)

-- the seats of a one-site line drew all numbers below one, each once; and all jobs, if one seat found the end
pub one_site : (jobs : ℕ) (seats : List SeatView) → Covers (jobs ∷ []) seats
    → (count : ℕ) × (count ≤ jobs) × ((weight : ℕ → ℕ) → weigh_all weight (lists_of seats) ≡ weigh_below weight count) × (end_found 0 seats ≡ true → count ≡ jobs)
one_site jobs seats covers = (slice_index covers.firsts 0, covers.within 0, λ weight. covers.each weight ∙ first_alone weight covers.firsts, covers.all 0)
  where
    first_alone : (weight : ℕ → ℕ) (firsts : List ℕ) → weigh_firsts weight (jobs ∷ []) firsts ≡ weigh_below weight (slice_index firsts 0)
    first_alone weight [] = refl
    first_alone weight (first ∷ firsts) = omega arith
