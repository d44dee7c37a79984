-- Outcomes stay at their places when another is put at its own.
-- Used by `place` and `place_all`.
use Rattle.std.proofs.Common.{◌≡◌, ◌∙◌, ◌≢◌, ℕ, zero, suc, ◌+◌, ◌<◌, ◌≤◌, List, [], ◌∷◌, ◌++◌, length, slice_set, ap, refl, arith}
use Rattle.std.specs.Prelude.{Some}
use Rattle.std.specs.List.{slice_get}
use Rattle.std.proofs.lemmas.Bool.Decides.{nat_tests}
use Rattle.job_line.specs.Sums.{weigh, weigh_all, weigh_below}
use Rattle.crawl_workers.specs.declared.crew.Done.{Done}
use Rattle.crawl_workers.specs.declared.report.Crawled.{Crawled}
use Rattle.crawl_workers.specs.Crews.{AllPlaced, all_numbers, one_below, one_at_number}
use Rattle.crawl_workers.specs.Shifts.{ArePlaced, numbers_of}

pub get_put : (xs : List Crawled) (place : ℕ) (x : Crawled) → place < length xs → slice_get (slice_set xs place x) place ≡ Some x
get_put [] place x within = absurd (omega arith)
get_put (y ∷ ys) zero x within = refl
get_put (y ∷ ys) (suc place) x within = get_put ys place x (omega arith)

pub get_other : (xs : List Crawled) (place other : ℕ) (x : Crawled) → other ≢ place → slice_get (slice_set xs place x) other ≡ slice_get xs other
get_other [] place other x differ = refl
get_other (y ∷ ys) zero zero x differ = absurd (differ refl)
get_other (y ∷ ys) zero (suc other) x differ = refl
get_other (y ∷ ys) (suc place) zero x differ = refl
get_other (y ∷ ys) (suc place) (suc other) x differ = get_other ys place other x (λ same. differ (ap suc same))

pub one_for_itself : (n : ℕ) → one_at_number n n ≡ 1
one_for_itself n = grind (arith, nat_tests)

pub none_for_other : (n m : ℕ) → one_at_number n m ≡ 0 → n ≢ m
none_for_other n m none = grind (arith, nat_tests)

pub weigh-append : (weight : ℕ → ℕ) (xs ys : List ℕ) → weigh weight (xs ++ ys) ≡ weigh weight xs + weigh weight ys
weigh-append weight [] ys = omega arith
weigh-append weight (x ∷ xs) ys = let later = weigh-append weight xs ys in omega (arith, later)

pub placed_kept : (old new : List Crawled) (done : List Done) → ((n : ℕ) → 0 < weigh (one_at_number n) (numbers_of done) → slice_get new n ≡ slice_get old n)
    → ArePlaced old done → ArePlaced new done
placed_kept old new [] keeps placed = tt
placed_kept old new (done ∷ later) keeps placed =
    let one = one_for_itself done.number in
    (keeps done.number (omega (arith, one)) ∙ placed.0, placed_kept old new later (λ n some. keeps n (omega (arith, some))) placed.1)

pub placed_more : (outcomes : List Crawled) (done : List Done) (last : Done) → ArePlaced outcomes done → slice_get outcomes last.number ≡ Some last.crawled
    → ArePlaced outcomes (done ++ last ∷ [])
placed_more outcomes [] last placed this = (this, tt)
placed_more outcomes (done ∷ later) last placed this = (placed.0, placed_more outcomes later last placed.1 this)

pub numbers_more : (done : List Done) (last : Done) → numbers_of (done ++ last ∷ []) ≡ numbers_of done ++ last.number ∷ []
numbers_more [] last = refl
numbers_more (done ∷ later) last = ap (λ numbers. done.number ∷ numbers) (numbers_more later last)

pub put_one : (outcomes : List Crawled) (done : List Done) (last : Done) → last.number < length outcomes → weigh (one_at_number last.number) (numbers_of done) ≡ 0
    → ArePlaced outcomes done → ArePlaced (slice_set outcomes last.number last.crawled) (done ++ last ∷ [])
put_one outcomes done last within none placed =
    placed_more _ done last
    (placed_kept outcomes (slice_set outcomes last.number last.crawled) done
    (λ n some. get_other outcomes last.number n last.crawled (λ same. absurd (omega (arith, some, none, ap (λ m. weigh (one_at_number m) (numbers_of done)) same)))) placed)
    (get_put outcomes last.number last.crawled within)

pub one_below_few : (count n : ℕ) → one_below count n ≤ 1
one_below_few count n = grind (arith, nat_tests)

pub one_below_some : (count n : ℕ) → 0 < one_below count n → n < count
one_below_some count n some = grind (arith, nat_tests)

pub weigh_below-one_for : (n count : ℕ) → weigh_below (one_at_number n) count ≡ one_below count n
weigh_below-one_for n zero = grind (arith, nat_tests)
weigh_below-one_for n (suc count) = below_more n count (weigh_below-one_for n count)
  where
    below_more : (n count : ℕ) → weigh_below (one_at_number n) count ≡ one_below count n → weigh_below (one_at_number n) count + one_at_number n count ≡ one_below (suc count) n
    below_more n count so_far = grind (arith, nat_tests)

pub weigh_middle : (weight : ℕ → ℕ) (done : List Done) (this : Done) (later : List Done)
    → weigh weight (numbers_of (done ++ this ∷ later)) ≡ weigh weight (numbers_of done) + (weight this.number + weigh weight (numbers_of later))
weigh_middle weight [] this later = omega arith
weigh_middle weight (done ∷ more) this later = let rest = weigh_middle weight more this later in omega (arith, rest)

pub own_place : (done : List Done) (this : Done) (later : List Done) (count : ℕ)
    → weigh (one_at_number this.number) (numbers_of (done ++ this ∷ later)) ≤ one_below count this.number
    → (this.number < count) × (weigh (one_at_number this.number) (numbers_of done) ≡ 0)
own_place done this later count few =
    let middle = weigh_middle (one_at_number this.number) done this later in
    let one = one_for_itself this.number in
    let at_most = one_below_few count this.number in
    (one_below_some count this.number (omega (arith, few, middle, one)), omega (arith, few, middle, one, at_most))

pub all_placed_kept : (old new : List Crawled) (lists : List (List Done)) → ((n : ℕ) → 0 < weigh_all (one_at_number n) (all_numbers lists) → slice_get new n ≡ slice_get old n)
    → AllPlaced old lists → AllPlaced new lists
all_placed_kept old new [] keeps placed = tt
all_placed_kept old new (done ∷ lists) keeps placed =
    (placed_kept old new done (λ n some. keeps n (omega (arith, some))) placed.0, all_placed_kept old new lists (λ n some. keeps n (omega (arith, some))) placed.1)

pub all_placed_more : (outcomes : List Crawled) (lists : List (List Done)) (last : List Done) → AllPlaced outcomes lists → ArePlaced outcomes last
    → AllPlaced outcomes (lists ++ last ∷ [])
all_placed_more outcomes [] last placed this = (this, tt)
all_placed_more outcomes (done ∷ lists) last placed this = (placed.0, all_placed_more outcomes lists last placed.1 this)

pub all_weigh_middle : (weight : ℕ → ℕ) (lists : List (List Done)) (this : List Done) (later : List (List Done))
    → weigh_all weight (all_numbers (lists ++ this ∷ later)) ≡ weigh_all weight (all_numbers lists) + (weigh weight (numbers_of this) + weigh_all weight (all_numbers later))
all_weigh_middle weight [] this later = omega arith
all_weigh_middle weight (done ∷ more) this later = let rest = all_weigh_middle weight more this later in omega (arith, rest)

pub places_one : (old new : List Crawled) (lists : List (List Done)) (this : List Done) (later : List (List Done)) (count : ℕ)
    → ((n : ℕ) → weigh_all (one_at_number n) (all_numbers (lists ++ this ∷ later)) ≤ one_below count n)
    → ((n : ℕ) → weigh (one_at_number n) (numbers_of this) ≡ 0 → slice_get new n ≡ slice_get old n)
    → AllPlaced old lists → ArePlaced new this → AllPlaced new (lists ++ this ∷ [])
places_one old new lists this later count once others placed here =
    all_placed_more new lists this
    (all_placed_kept old new lists (λ n some. others n (none n some (once n) (all_weigh_middle (one_at_number n) lists this later) (one_below_few count n))) placed)
    here
  where
    none : (n : ℕ) → 0 < weigh_all (one_at_number n) (all_numbers lists) → weigh_all (one_at_number n) (all_numbers (lists ++ this ∷ later)) ≤ one_below count n
        → weigh_all (one_at_number n) (all_numbers (lists ++ this ∷ later)) ≡ weigh_all (one_at_number n) (all_numbers lists) + (weigh (one_at_number n) (numbers_of this) + weigh_all (one_at_number n) (all_numbers later))
        → one_below count n ≤ 1 → weigh (one_at_number n) (numbers_of this) ≡ 0
    none n some once middle few = omega (arith, some, once, middle, few)
