-- How many places are free after one is taken or freed.
-- Used by `Turns`.
use Rattle.std.proofs.Common.{◌≡◌, ℕ, zero, suc, ◌+◌, ◌<◌, ◌≤◌, Bool, true, false, List, [], ◌∷◌, length, replicate, slice_set, slice_index_or, refl, arith}
use Rattle.crawl_workers.specs.Orders.{how_many_false}

pub one_taken : (places : List Bool) (n : ℕ) (is : Bool) → n < length places → is ≡ slice_index_or places n is → is ≡ false
    → how_many_false (slice_set places n true) + 1 ≡ how_many_false places
one_taken [] n is there at free = absurd (omega arith)
one_taken (true ∷ places) zero is there at free = absurd cc
one_taken (false ∷ places) zero is there at free = omega arith
one_taken (true ∷ places) (suc n) is there at free = one_taken places n is (omega (arith, there)) at free
one_taken (false ∷ places) (suc n) is there at free = let later = one_taken places n is (omega (arith, there)) at free in omega (arith, later)

pub one_freed : (places : List Bool) (n : ℕ) → how_many_false (slice_set places n false) ≤ how_many_false places + 1
one_freed [] n = omega arith
one_freed (true ∷ places) zero = omega arith
one_freed (false ∷ places) zero = omega arith
one_freed (true ∷ places) (suc n) = one_freed places n
one_freed (false ∷ places) (suc n) = let later = one_freed places n in omega (arith, later)

pub all_free : (count : ℕ) → how_many_false (replicate count false) ≡ count
all_free zero = refl
all_free (suc count) = let later = all_free count in omega (arith, later)
