-- Sums over hands: with one changed, one more, or one that has all.
-- Used by `Steps`.
use Rattle.std.proofs.Common.{◌≡◌, ℕ, zero, suc, ◌+◌, ◌≤◌, List, [], ◌∷◌, ◌++◌, length, sym, refl, ap, arith}
use Rattle.std.specs.Prelude.{All, slice_set}
use Rattle.std.proofs.lemmas.List.Elements.{All-head, All-tail}
use mathlib.Core.Option.{some, some-injective, some-ne-none}
use lib.ListN.{get_elem?}
use Rattle.job_line.specs.declared.rule.Hand.{Hand}
use Rattle.job_line.specs.Rule.{total}
use Rattle.job_line.specs.Sums.{weigh, weigh_below}

pub total-put : (f : Hand → ℕ) (hands : List Hand) (id : ℕ) (old new : Hand) → get_elem? hands id ≡ some old → total f (slice_set hands id new) + f old ≡ total f hands + f new
total-put f [] id old new at = absurd (some-ne-none old (sym at))
total-put f (first ∷ hands) zero old new at = let same : f first ≡ f old = ap f (some-injective first old at) in omega (arith, same)
total-put f (first ∷ hands) (suc id) old new at = let later = total-put f hands id old new at in omega (arith, later)

pub total-push : (f : Hand → ℕ) (hands : List Hand) (new : Hand) → total f (hands ++ new ∷ []) ≡ total f hands + f new
total-push f [] new = omega arith
total-push f (first ∷ hands) new = let later = total-push f hands new in omega (arith, later)

pub total-at : (f : Hand → ℕ) (hands : List Hand) (id : ℕ) (hand : Hand) → get_elem? hands id ≡ some hand → f hand ≤ total f hands
total-at f [] id hand at = absurd (some-ne-none hand (sym at))
total-at f (first ∷ hands) zero hand at = let same : f first ≡ f hand = ap f (some-injective first hand at) in omega (arith, same)
total-at f (first ∷ hands) (suc id) hand at = let later = total-at f hands id hand at in omega (arith, later)

pub total-le : (f g : Hand → ℕ) (hands : List Hand) → All (λ hand. f hand ≤ g hand) hands → total f hands ≤ total g hands
total-le f g [] each = omega arith
total-le f g (first ∷ hands) each =
    let here = All-head (λ hand. f hand ≤ g hand) first hands each in
    let later = total-le f g hands (All-tail (λ hand. f hand ≤ g hand) first hands each) in
    omega (arith, here, later)

total-idle : (f g : Hand → ℕ) (hands : List Hand) → All (λ hand. f hand ≡ 0 → g hand ≡ 0) hands → total f hands ≡ 0 → total g hands ≡ 0
total-idle f g [] each none = refl
total-idle f g (first ∷ hands) each none =
    let here : g first ≡ 0 = All-head (λ hand. f hand ≡ 0 → g hand ≡ 0) first hands each (omega (arith, none)) in
    let later : total g hands ≡ 0 = total-idle f g hands (All-tail (λ hand. f hand ≡ 0 → g hand ≡ 0) first hands each) (omega (arith, none)) in
    omega (arith, here, later)

pub total-owner : (f g : Hand → ℕ) (hands : List Hand) (id : ℕ) (hand : Hand) → get_elem? hands id ≡ some hand → All (λ hand. f hand ≡ 0 → g hand ≡ 0) hands
    → total f hands ≡ f hand → total g hands ≡ g hand
total-owner f g [] id hand at each all = absurd (some-ne-none hand (sym at))
total-owner f g (first ∷ hands) zero hand at each all =
    let same : f first ≡ f hand = ap f (some-injective first hand at) in
    let also : g first ≡ g hand = ap g (some-injective first hand at) in
    let later = total-idle f g hands (All-tail (λ hand. f hand ≡ 0 → g hand ≡ 0) first hands each) (omega (arith, same, all)) in
    omega (arith, also, later)
total-owner f g (first ∷ hands) (suc id) hand at each all =
    let most = total-at f hands id hand at in
    let none : f first ≡ 0 = omega (arith, most, all) in
    let here : g first ≡ 0 = All-head (λ hand. f hand ≡ 0 → g hand ≡ 0) first hands each none in
    let later = total-owner f g hands id hand at (All-tail (λ hand. f hand ≡ 0 → g hand ≡ 0) first hands each) (omega (arith, none, all)) in
    omega (arith, here, later)

pub weigh-append : (weight : ℕ → ℕ) (xs ys : List ℕ) → weigh weight (xs ++ ys) ≡ weigh weight xs + weigh weight ys
weigh-append weight [] ys = omega arith
weigh-append weight (x ∷ xs) ys = let later = weigh-append weight xs ys in omega (arith, later)

pub weigh-one : (xs : List ℕ) → weigh (λ _. 1) xs ≡ length xs
weigh-one [] = refl
weigh-one (x ∷ xs) = let later = weigh-one xs in omega (arith, later)

pub weigh_below-one : (n : ℕ) → weigh_below (λ _. 1) n ≡ n
weigh_below-one zero = refl
weigh_below-one (suc n) = let later = weigh_below-one n in omega (arith, later)
