-- The weights of lists of numbers, and of the numbers at their indexes.
-- Used by `Order`, `Crew` and `run_shift`.
use Rattle.std.proofs.Common.{◌≡◌, ◌∙◌, ℕ, zero, suc, ◌+◌, ◌<◌, List, [], ◌∷◌, ◌++◌, length, drop, slice_set, ap, refl, arith, Vec, Global}
use Rattle.std.specs.Prelude.{slice_index_or}
use Rattle.job_line.specs.Sums.{jobs_in, weigh, weigh_all, weigh_below}
use Rattle.crawl_workers.specs.Orders.{lists_in, weigh_at}

pub weigh_both : (weight : ℕ → ℕ) (xs ys : List ℕ) → weigh weight (xs ++ ys) ≡ weigh weight xs + weigh weight ys
weigh_both weight [] ys = omega arith
weigh_both weight (x ∷ xs) ys = let later = weigh_both weight xs ys in omega (arith, later)

pub weigh_all_more : (weight : ℕ → ℕ) (lists : List (Vec ℕ Global)) (list : Vec ℕ Global)
    → weigh_all weight (lists_in (lists ++ list ∷ [])) ≡ weigh_all weight (lists_in lists) + weigh weight list.items
weigh_all_more weight [] list = omega arith
weigh_all_more weight (first ∷ lists) list = let later = weigh_all_more weight lists list in omega (arith, later)

pub weigh_all_put : (weight : ℕ → ℕ) (lists : List (Vec ℕ Global)) (site : ℕ) (old new : Vec ℕ Global) → site < length lists → slice_index_or lists site old ≡ old
    → weigh_all weight (lists_in (slice_set lists site new)) + weigh weight old.items ≡ weigh_all weight (lists_in lists) + weigh weight new.items
weigh_all_put weight [] site old new there same = absurd (omega arith)
weigh_all_put weight (first ∷ lists) zero old new there same = omega (arith, ap (λ (list : Vec ℕ Global). weigh weight list.items) same)
weigh_all_put weight (first ∷ lists) (suc site) old new there same =
    let later = weigh_all_put weight lists site old new (omega (arith, there)) same in omega (arith, later)

pub weigh_all_left : (weight : ℕ → ℕ) (lists : List (Vec ℕ Global)) (i : ℕ) (list : Vec ℕ Global) → i < length lists → list ≡ slice_index_or lists i list
    → weigh_all weight (lists_in (drop i lists)) ≡ weigh weight list.items + weigh_all weight (lists_in (drop (i + 1) lists))
weigh_all_left weight lists i list there at =
    left lists i list there at ∙ ap (λ k. weigh weight list.items + weigh_all weight (lists_in (drop k lists))) (next i)
  where
    next : (n : ℕ) → suc n ≡ n + 1
    next n = omega arith

    left : (lists : List (Vec ℕ Global)) (i : ℕ) (list : Vec ℕ Global) → i < length lists → list ≡ slice_index_or lists i list
        → weigh_all weight (lists_in (drop i lists)) ≡ weigh weight list.items + weigh_all weight (lists_in (drop (suc i) lists))
    left [] i list there at = absurd (omega arith)
    left (first ∷ lists) zero list there at = omega (arith, ap (λ (l : Vec ℕ Global). weigh weight l.items) at)
    left (first ∷ lists) (suc i) list there at = left lists i list (omega (arith, there)) at

-- a weight of one for each number counts them
pub weigh_ones : (xs : List ℕ) → weigh (λ _. 1) xs ≡ length xs
weigh_ones [] = refl
weigh_ones (x ∷ xs) = let later = weigh_ones xs in omega (arith, later)

pub weigh_below_ones : (n : ℕ) → weigh_below (λ _. 1) n ≡ n
weigh_below_ones zero = refl
weigh_below_ones (suc n) = let later = weigh_below_ones n in omega (arith, later)

pub jobs_in_more : (counts : List ℕ) (count : ℕ) → jobs_in (counts ++ count ∷ []) ≡ jobs_in counts + count
jobs_in_more [] count = omega arith
jobs_in_more (first ∷ counts) count = let later = jobs_in_more counts count in omega (arith, later)

weigh_below_first : (weight : ℕ → ℕ) (n : ℕ) → weigh_below weight (suc n) ≡ weight 0 + weigh_below (λ index. weight (suc index)) n
weigh_below_first weight zero = omega arith
weigh_below_first weight (suc n) = let later = weigh_below_first weight n in omega (arith, later)

pub weigh_indexes : (weight : ℕ → ℕ) (xs : List ℕ) → weigh_below (weigh_at xs weight) (length xs) ≡ weigh weight xs
weigh_indexes weight [] = refl
weigh_indexes weight (x ∷ xs) =
    let later = weigh_indexes weight xs in
    let first = weigh_below_first (weigh_at (x ∷ xs) weight) (length xs) in
    omega (arith, later, first)
