-- The order of jobs in a line: site by site.
-- Used by `Order`, `Crew` and `Turns`.
use Rattle.std.specs.Prelude.{◌≡◌, ℕ, suc, Bool, true, false, List, [], ◌∷◌, length, map, slice_index, Vec}
use Rattle.std.specs.declared.alloc.Global.{Global}
use Rattle.job_line.specs.Sums.{jobs_in, weigh, weigh_below}

-- the numbers in each list
abbrev pub lists_in : List (Vec ℕ Global) → List (List ℕ)
lists_in lists = map (λ list. list.items) lists

-- the order has each number below the count once, as many as the sites' jobs
pub record IsOrder (count : ℕ) (counts order : List ℕ) : Type 0 where
  pub jobs : jobs_in counts ≡ count
  pub len : length order ≡ count
  pub each_once : (weight : ℕ → ℕ) → weigh weight order ≡ weigh_below weight count

-- the weight of an index: that of the job at it
abbrev pub weigh_at : List ℕ → (ℕ → ℕ) → ℕ → ℕ
weigh_at order weight index = weight (slice_index order index)

-- how many are false
abbrev pub how_many_false : List Bool → ℕ
how_many_false [] = 0
how_many_false (true ∷ xs) = how_many_false xs
how_many_false (false ∷ xs) = suc (how_many_false xs)
