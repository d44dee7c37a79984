-- What a worker has drawn after one more draw, and what all workers drew.
-- Used by `Crew` and `run_shift`.
use Rattle.std.proofs.Common.{◌≡◌, ◌∙◌, ℕ, zero, suc, ◌<◌, ◌≤◌, Bool, true, false, List, [], ◌∷◌, ◌++◌, length, slice_set, ap, refl, sym, arith}
use Rattle.std.specs.Prelude.{slice_index, slice_index_or}
use Rattle.std.specs.List.{list_all, list_any}
use Rattle.job_line.specs.Covers.{Covers, SeatView, has_ended, lists_of}
use Rattle.job_line.specs.Sums.{weigh, weigh_all, weigh_below}
use Rattle.crawl_workers.specs.Crews.{StaysAt, one_at_number}
use Rattle.crawl_workers.specs.Orders.{IsOrder, weigh_at}
use Rattle.crawl_workers.proofs.Ordering.{weigh_both, weigh_indexes}
use Rattle.crawl_workers.proofs.Placing.{one_below_some, one_for_itself, weigh_below-one_for}

weigh_one : (weight : ℕ → ℕ) (xs : List ℕ) (i : ℕ) → i < length xs → weight (slice_index xs i) ≤ weigh weight xs
weigh_one weight [] i there = absurd (omega arith)
weigh_one weight (x ∷ xs) zero there = omega arith
weigh_one weight (x ∷ xs) (suc i) there = let later = weigh_one weight xs i (omega (arith, there)) in omega (arith, later)

pub is_job : (count : ℕ) (counts order : List ℕ) → IsOrder count counts order → (index : ℕ) → index < length order → slice_index order index < count
is_job count counts order is index there =
    let n = slice_index order index in
    let at = weigh_one (one_at_number n) order index there in
    let all = is.each_once (one_at_number n) in
    let one = one_for_itself n in
    let below = weigh_below-one_for n count in
    one_below_some count n (omega (arith, at, all, one, below))

pub draws_more : (order drawn now : List ℕ) (seat after : List ℕ) (index number : ℕ) → ((weight : ℕ → ℕ) → weigh weight drawn ≡ weigh (weigh_at order weight) seat)
    → number ≡ slice_index order index → after ≡ seat ++ index ∷ [] → now ≡ drawn ++ number ∷ []
    → (weight : ℕ → ℕ) → weigh weight now ≡ weigh (weigh_at order weight) after
draws_more order drawn now seat after index number so_far job at_seat more weight =
    omega (
      arith,
      so_far weight,
      ap weight job,
      ap (weigh weight) more,
      weigh_both weight drawn (number ∷ []),
      ap (weigh (weigh_at order weight)) at_seat,
      weigh_both (weigh_at order weight) seat (index ∷ []),
    )

pub end_kept : (ended : List Bool) (site other : ℕ) → slice_index_or ended other false ≡ true → slice_index_or (slice_set ended site true) other false ≡ true
end_kept [] site other is = is
end_kept (end ∷ ended) zero zero is = refl
end_kept (end ∷ ended) zero (suc other) is = is
end_kept (end ∷ ended) (suc site) zero is = is
end_kept (end ∷ ended) (suc site) (suc other) is = end_kept ended site other is

pub end_is_found : (ended : List Bool) (site : ℕ) → site < length ended → slice_index_or (slice_set ended site true) site false ≡ true
end_is_found [] site there = absurd (omega arith)
end_is_found (end ∷ ended) zero there = refl
end_is_found (end ∷ ended) (suc site) there = end_is_found ended site (omega (arith, there))

pub all_found : (ended : List Bool) → ((site : ℕ) → site < length ended → slice_index_or ended site false ≡ true) → list_all (λ end. end) ended ≡ true
all_found [] each = refl
all_found (true ∷ ended) each = all_found ended (λ site there. each (suc site) (omega (arith, there)))
all_found (false ∷ ended) each = absurd (apart (each 0 (omega arith)))
  where
    apart : false ≡ true → ⊥
    apart is = cc

pub stays : (seat : SeatView) → StaysAt seat seat
stays seat = record { same_line = refl; same_counts = refl; same_parts = refl; same_sites = refl; ends_kept = λ site is. is }

-- each job is drawn once if the seats cover the line and one found the end of each site
pub drawn_once : (count : ℕ) (counts order : List ℕ) (drawn : List (List ℕ)) (seats : List SeatView) → IsOrder count counts order → Covers counts seats → list_any has_ended seats ≡ true
    → ((weight : ℕ → ℕ) → weigh_all weight drawn ≡ weigh_all (weigh_at order weight) (lists_of seats))
    → (weight : ℕ → ℕ) → weigh_all weight drawn ≡ weigh_below weight count
drawn_once count counts order drawn seats is covers ended same weight =
    same weight ∙ covers.one_ended ended (weigh_at order weight) ∙ ap (weigh_below (weigh_at order weight)) (is.jobs ∙ sym is.len)
    ∙ weigh_indexes weight order ∙ is.each_once weight
