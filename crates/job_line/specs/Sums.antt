-- Sums that compare lists of numbers: two lists have the same numbers, equally often, if every weight has the same
-- sum. And the indexes of several sites, one after the other.
use Rattle.std.specs.Prelude.{ℕ, zero, suc, ◌+◌, List, [], ◌∷◌}

-- the total weight of a list
abbrev pub weigh : (ℕ → ℕ) → List ℕ → ℕ
weigh weight [] = 0
weigh weight (x ∷ xs) = weight x + weigh weight xs

-- the total weight of the numbers below a number
abbrev pub weigh_below : (ℕ → ℕ) → ℕ → ℕ
weigh_below weight zero = 0
weigh_below weight (suc n) = weigh_below weight n + weight n

-- the total weight of the lists
abbrev pub weigh_all : (ℕ → ℕ) → List (List ℕ) → ℕ
weigh_all weight [] = 0
weigh_all weight (xs ∷ lists) = weigh weight xs + weigh_all weight lists

-- the jobs of all sites
abbrev pub jobs_in : List ℕ → ℕ
jobs_in [] = 0
jobs_in (count ∷ counts) = count + jobs_in counts

-- the index at which a site's jobs begin
abbrev pub begin_of : List ℕ → ℕ → ℕ
begin_of [] site = 0
begin_of (count ∷ counts) zero = 0
begin_of (count ∷ counts) (suc site) = count + begin_of counts site

-- the index at which each site's jobs begin, from a first one
abbrev pub begins_from : ℕ → List ℕ → List ℕ
begins_from begin [] = []
begins_from begin (count ∷ counts) = begin ∷ begins_from (begin + count) counts

-- the total weight of this many first indexes of each site
abbrev pub weigh_firsts : (ℕ → ℕ) → List ℕ → List ℕ → ℕ
weigh_firsts weight [] firsts = 0
weigh_firsts weight (count ∷ counts) [] = 0
weigh_firsts weight (count ∷ counts) (first ∷ firsts) =
    weigh_below weight first + weigh_firsts (λ index. weight (count + index)) counts firsts
