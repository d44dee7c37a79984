-- How many elements pass a test, after joining, filtering or mapping.
-- Used by the laws on histories.
use Rattle.std.proofs.Common.{◌≡◌, ◌+◌, ◌<◌, ◌≤◌, Bool, true, false, cond, ◌&&◌, ◌||◌, List, [], ◌∷◌, ◌++◌, length, filter, map, refl, sym, ap, ◌∙◌, true≢false, length-append, arith}
use Rattle.std.specs.List.{list_all, list_any}
use Rattle.std.proofs.lemmas.List.Elements.{filter-append}
use Rattle.authority_cache.specs.Calls.{one_if}
use Rattle.authority_cache.proofs.CallerLemmas.{count-cons}

pub count-append : {X : Type 0} (p : X → Bool) (xs ys : List X) →
    length (filter p (xs ++ ys)) ≡ length (filter p xs) + length (filter p ys)
count-append p xs ys = ap length (filter-append p xs ys) ∙ length-append (filter p xs) (filter p ys)

pub count-map : {X Y : Type 0} (p : Y → Bool) (f : X → Y) (xs : List X) → length (filter p (map f xs)) ≡ length (filter (λ x. p (f x)) xs)
count-map p f [] = refl
count-map p f (x ∷ xs) = by (p (f x)) (count-map p f xs)
  where
    by : (b : Bool) → length (filter p (map f xs)) ≡ length (filter (λ y. p (f y)) xs) →
        length (cond b (f x ∷ filter p (map f xs)) (filter p (map f xs))) ≡ length (cond b (x ∷ filter (λ y. p (f y)) xs) (filter (λ y. p (f y)) xs))
    by true rest = omega arith
    by false rest = rest

pub some-found : {X : Type 0} (p : X → Bool) (xs : List X) → list_any p xs ≡ true → 0 < length (filter p xs)
some-found p [] found = absurd (true≢false (sym found))
some-found p (x ∷ xs) found = by (p x) (some-found p xs) found
  where
    by : (b : Bool) → (list_any p xs ≡ true → 0 < length (filter p xs)) → (b || list_any p xs) ≡ true → 0 < length (cond b (x ∷ filter p xs) (filter p xs))
    by true rest found = omega arith
    by false rest found = rest found

pub none-found : {X : Type 0} (p : X → Bool) (xs : List X) → list_any p xs ≡ false → length (filter p xs) ≡ 0
none-found p [] none = refl
none-found p (x ∷ xs) none = by (p x) (none-found p xs) none
  where
    by : (b : Bool) → (list_any p xs ≡ false → length (filter p xs) ≡ 0) → (b || list_any p xs) ≡ false → length (cond b (x ∷ filter p xs) (filter p xs)) ≡ 0
    by true rest none = absurd (true≢false none)
    by false rest none = rest none

pub count-alike : {X : Type 0} (p q : X → Bool) (xs : List X) → ((x : X) → p x ≡ q x) → length (filter p xs) ≡ length (filter q xs)
count-alike p q [] alike = refl
count-alike p q (x ∷ xs) alike =
    let rest = count-alike p q xs alike in
    let here : one_if (p x) ≡ one_if (q x) = ap one_if (alike x) in
    omega (arith, count-cons p x xs, count-cons q x xs)

pub all-more : {X : Type 0} (p q : X → Bool) (xs : List X) → ((x : X) → p x ≡ true → q x ≡ true) → list_all p xs ≡ true → list_all q xs ≡ true
all-more p q [] more all = refl
all-more p q (x ∷ xs) more all = by (p x) refl (all-more p q xs more) all
  where
    by : (b : Bool) → p x ≡ b → (list_all p xs ≡ true → list_all q xs ≡ true) → (b && list_all p xs) ≡ true → (q x && list_all q xs) ≡ true
    by true passes rest all = rw (more x passes) (rest all)
    by false passes rest all = absurd (true≢false (sym all))

pub all-append : {X : Type 0} (p : X → Bool) (xs ys : List X) → list_all p xs ≡ true → list_all p ys ≡ true → list_all p (xs ++ ys) ≡ true
all-append p [] ys all others = others
all-append p (x ∷ xs) ys all others = by (p x) refl (λ rest. all-append p xs ys rest others) all
  where
    by : (b : Bool) → p x ≡ b → (list_all p xs ≡ true → list_all p (xs ++ ys) ≡ true) → (b && list_all p xs) ≡ true → (p x && list_all p (xs ++ ys)) ≡ true
    by true passes rest all = rw passes (rest all)
    by false passes rest all = absurd (true≢false (sym all))

pub all-filter : {X : Type 0} (p q : X → Bool) (xs : List X) → list_all p xs ≡ true → list_all p (filter q xs) ≡ true
all-filter p q [] all = refl
all-filter p q (x ∷ xs) all = by (q x) (p x) refl (all-filter p q xs) all
  where
    by : (k b : Bool) → p x ≡ b → (list_all p xs ≡ true → list_all p (filter q xs) ≡ true) → (b && list_all p xs) ≡ true →
        list_all p (cond k (x ∷ filter q xs) (filter q xs)) ≡ true
    by true true passes rest all = rw passes (rest all)
    by false true passes rest all = rest all
    by k false passes rest all = absurd (true≢false (sym all))

pub all-of_map : {X Y : Type 0} (p : Y → Bool) (f : X → Y) (xs : List X) → list_all (λ x. p (f x)) xs ≡ true → list_all p (map f xs) ≡ true
all-of_map p f [] all = refl
all-of_map p f (x ∷ xs) all = by (p (f x)) refl (all-of_map p f xs) all
  where
    by : (b : Bool) → p (f x) ≡ b → (list_all (λ y. p (f y)) xs ≡ true → list_all p (map f xs) ≡ true) → (b && list_all (λ y. p (f y)) xs) ≡ true →
        (p (f x) && list_all p (map f xs)) ≡ true
    by true passes rest all = rw passes (rest all)
    by false passes rest all = absurd (true≢false (sym all))

pub same-found : {X : Type 0} (p q : X → Bool) (xs : List X) → length (filter p xs) ≤ 1 → length (filter q xs) ≤ 1 →
    list_any (λ x. p x && q x) xs ≡ true → filter p xs ≡ filter q xs
same-found p q [] one other both = refl
same-found {X} p q (x ∷ xs) one other both = by (p x) (q x) refl refl (same-found p q xs) one other both
  where
    left : (r : X → Bool) → list_any r xs ≡ true → length (filter r xs) ≡ 0 → ⊥
    left r found none = let some = some-found r xs found in omega arith

    empty : (ys : List X) → length ys ≡ 0 → ys ≡ []
    empty [] none = refl
    empty (y ∷ ys) none = cc

    first : list_any (λ y. p y && q y) xs ≡ true → list_any p xs ≡ true
    first found = any-left xs found
      where
        any-left : (ys : List X) → list_any (λ y. p y && q y) ys ≡ true → list_any p ys ≡ true
        any-left [] found = found
        any-left (y ∷ ys) found = step (p y) (q y) (any-left ys) found
          where
            step : (a b : Bool) → (list_any (λ z. p z && q z) ys ≡ true → list_any p ys ≡ true) → ((a && b) || list_any (λ z. p z && q z) ys) ≡ true →
                (a || list_any p ys) ≡ true
            step true b rest found = refl
            step false b rest found = rest found

    second : list_any (λ y. p y && q y) xs ≡ true → list_any q xs ≡ true
    second found = any-right xs found
      where
        any-right : (ys : List X) → list_any (λ y. p y && q y) ys ≡ true → list_any q ys ≡ true
        any-right [] found = found
        any-right (y ∷ ys) found = step (p y) (q y) (any-right ys) found
          where
            step : (a b : Bool) → (list_any (λ z. p z && q z) ys ≡ true → list_any q ys ≡ true) → ((a && b) || list_any (λ z. p z && q z) ys) ≡ true →
                (b || list_any q ys) ≡ true
            step a true rest found = refl
            step true false rest found = rest found
            step false false rest found = rest found

    by : (a b : Bool) → p x ≡ a → q x ≡ b →
        (length (filter p xs) ≤ 1 → length (filter q xs) ≤ 1 → list_any (λ y. p y && q y) xs ≡ true → filter p xs ≡ filter q xs) →
        length (cond a (x ∷ filter p xs) (filter p xs)) ≤ 1 → length (cond b (x ∷ filter q xs) (filter q xs)) ≤ 1 →
        ((a && b) || list_any (λ y. p y && q y) xs) ≡ true →
        cond a (x ∷ filter p xs) (filter p xs) ≡ cond b (x ∷ filter q xs) (filter q xs)
    by true true pe qe rest one other both =
        let none : filter p xs ≡ [] = empty (filter p xs) (omega arith) in
        let neither : filter q xs ≡ [] = empty (filter q xs) (omega arith) in
        rw (none, neither) refl
    by true false pe qe rest one other both = let some = some-found p xs (first both) in absurd (omega arith)
    by false true pe qe rest one other both = let some = some-found q xs (second both) in absurd (omega arith)
    by false false pe qe rest one other both = rest one other both
