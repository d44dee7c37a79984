-- Lists that say the same in any order, after joining, filtering or mapping.
-- Used by the laws on histories that say the same.
use Rattle.std.proofs.Common.{◌≡◌, ℕ, ◌+◌, ◌≤◌, zero, suc, Bool, true, false, cond, not, ◌&&◌, List, [], ◌∷◌, ◌++◌, Some, length, filter, map, refl, sym, ap, ◌∙◌, true≢false, arith}
use Rattle.std.specs.List.{find, list_all, list_any}
use Rattle.std.proofs.lemmas.List.Elements.{filter-append}
use Rattle.permit_book.proofs.CallerLemmas.{filter-all}
use Rattle.authority_cache.specs.Calls.{one_if}
use Rattle.authority_cache.proofs.CallerLemmas.{count-bound, count-cons}
use Rattle.gate_history.specs.Seal.{SaySame}
use Rattle.gate_history.proofs.Counting.{count-append, count-map, none-found, some-found}

filter-swap : {X : Type 0} (p q : X → Bool) (xs : List X) → filter p (filter q xs) ≡ filter q (filter p xs)
filter-swap p q [] = refl
filter-swap p q (x ∷ xs) = by (p x) (q x) refl refl (filter-swap p q xs)
  where
    by : (a b : Bool) → p x ≡ a → q x ≡ b → filter p (filter q xs) ≡ filter q (filter p xs) →
        filter p (cond b (x ∷ filter q xs) (filter q xs)) ≡ filter q (cond a (x ∷ filter p xs) (filter p xs))
    by true true pe qe rest = rw (pe, qe) (ap (λ ys. x ∷ ys) rest)
    by false true pe qe rest = rw pe rest
    by true false pe qe rest = rw qe rest
    by false false pe qe rest = rest

filter-both : {X : Type 0} (p q : X → Bool) (xs : List X) → filter p (filter q xs) ≡ filter (λ x. q x && p x) xs
filter-both p q [] = refl
filter-both p q (x ∷ xs) = by (q x) (p x) refl (filter-both p q xs)
  where
    by : (b a : Bool) → p x ≡ a → filter p (filter q xs) ≡ filter (λ y. q y && p y) xs →
        filter p (cond b (x ∷ filter q xs) (filter q xs)) ≡ cond (b && a) (x ∷ filter (λ y. q y && p y) xs) (filter (λ y. q y && p y) xs)
    by true true is rest = rw is (ap (λ ys. x ∷ ys) rest)
    by true false is rest = rw is rest
    by false a is rest = rest

filter-map : {X Y : Type 0} (p : Y → Bool) (f : X → Y) (xs : List X) → filter p (map f xs) ≡ map f (filter (λ x. p (f x)) xs)
filter-map p f [] = refl
filter-map p f (x ∷ xs) = by (p (f x)) (filter-map p f xs)
  where
    by : (b : Bool) → filter p (map f xs) ≡ map f (filter (λ y. p (f y)) xs) →
        cond b (f x ∷ filter p (map f xs)) (filter p (map f xs)) ≡ map f (cond b (x ∷ filter (λ y. p (f y)) xs) (filter (λ y. p (f y)) xs))
    by true rest = ap (λ ys. f x ∷ ys) rest
    by false rest = rest

pub says-itself : {K X : Type 0} (is_of : K → X → Bool) (xs : List X) → SaySame is_of xs xs
says-itself is_of xs = record { each = λ k. refl; counts = λ p. refl }

pub same_on : {K X : Type 0} (is_of : K → X → Bool) (xs ys zs : List X) → SaySame is_of xs ys → SaySame is_of ys zs → SaySame is_of xs zs
same_on is_of xs ys zs one other = record { each = λ k. one.each k ∙ other.each k; counts = λ p. one.counts p ∙ other.counts p }

pub says-filter : {K X : Type 0} (is_of : K → X → Bool) (q : X → Bool) (xs ys : List X) → SaySame is_of xs ys → SaySame is_of (filter q xs) (filter q ys)
says-filter is_of q xs ys same = record {
  each = λ k. filter-swap (is_of k) q xs ∙ (ap (filter q) (same.each k) ∙ sym (filter-swap (is_of k) q ys));
  counts = λ p. ap length (filter-both p q xs) ∙ (same.counts (λ x. q x && p x) ∙ sym (ap length (filter-both p q ys)));
}

pub says-append : {K X : Type 0} (is_of : K → X → Bool) (xs ys more others : List X) → SaySame is_of xs ys → SaySame is_of more others →
    SaySame is_of (xs ++ more) (ys ++ others)
says-append is_of xs ys more others same also = record {
  each = λ k. filter-append (is_of k) xs more ∙ (ap (λ zs. zs ++ filter (is_of k) more) (same.each k)
      ∙ (ap (λ zs. filter (is_of k) ys ++ zs) (also.each k) ∙ sym (filter-append (is_of k) ys others)));
  counts = λ p.
      let first = same.counts p in let second = also.counts p in omega (arith, count-append p xs more, count-append p ys others);
}

pub says-map : {K X Y : Type 0} (is_of : K → Y → Bool) (f : X → Y) (xs ys : List X) → SaySame (λ k x. is_of k (f x)) xs ys → SaySame is_of (map f xs) (map f ys)
says-map is_of f xs ys same = record {
  each = λ k. filter-map (is_of k) f xs ∙ (ap (map f) (same.each k) ∙ sym (filter-map (is_of k) f ys));
  counts = λ p. count-map p f xs ∙ (same.counts (λ x. p (f x)) ∙ sym (count-map p f ys));
}

pub says-any : {K X : Type 0} (is_of : K → X → Bool) (xs ys : List X) → SaySame is_of xs ys → (p : X → Bool) → list_any p xs ≡ list_any p ys
says-any is_of xs ys same p = by (list_any p xs) (list_any p ys) refl refl
  where
    by : (a b : Bool) → list_any p xs ≡ a → list_any p ys ≡ b → a ≡ b
    by true true one other = refl
    by false false one other = refl
    by true false one other =
        let some = some-found p xs one in let none = none-found p ys other in let all = same.counts p in absurd (omega arith)
    by false true one other =
        let none = none-found p xs one in let some = some-found p ys other in let all = same.counts p in absurd (omega arith)

pub says-length : {K X : Type 0} (is_of : K → X → Bool) (xs ys : List X) → SaySame is_of xs ys → length xs ≡ length ys
says-length is_of xs ys same = ap length (sym (filter-all xs)) ∙ (same.counts (λ _. true) ∙ ap length (filter-all ys))

find-filter : {X : Type 0} (p : X → Bool) (xs : List X) → find p xs ≡ find (λ _. true) (filter p xs)
find-filter p [] = refl
find-filter p (x ∷ xs) = by (p x) (find-filter p xs)
  where
    by : (b : Bool) → find p xs ≡ find (λ _. true) (filter p xs) → cond b (Some x) (find p xs) ≡ find (λ _. true) (cond b (x ∷ filter p xs) (filter p xs))
    by true rest = refl
    by false rest = rest

pub says-first : {K X : Type 0} (is_of : K → X → Bool) (xs ys : List X) → SaySame is_of xs ys → (k : K) → find (is_of k) xs ≡ find (is_of k) ys
says-first is_of xs ys same k = find-filter (is_of k) xs ∙ (ap (find (λ _. true)) (same.each k) ∙ sym (find-filter (is_of k) ys))

none-fails : {X : Type 0} (p : X → Bool) (xs : List X) → list_all p xs ≡ true → length (filter (λ x. not (p x)) xs) ≡ 0
none-fails p [] all = refl
none-fails p (x ∷ xs) all = by (p x) (none-fails p xs) all
  where
    by : (b : Bool) → (list_all p xs ≡ true → length (filter (λ y. not (p y)) xs) ≡ 0) → (b && list_all p xs) ≡ true →
        length (cond (not b) (x ∷ filter (λ y. not (p y)) xs) (filter (λ y. not (p y)) xs)) ≡ 0
    by true rest all = rest all
    by false rest all = absurd (true≢false (sym all))

all-pass : {X : Type 0} (p : X → Bool) (xs : List X) → length (filter (λ x. not (p x)) xs) ≡ 0 → list_all p xs ≡ true
all-pass p [] none = refl
all-pass p (x ∷ xs) none = by (p x) (all-pass p xs) none
  where
    by : (b : Bool) → (length (filter (λ y. not (p y)) xs) ≡ 0 → list_all p xs ≡ true) →
        length (cond (not b) (x ∷ filter (λ y. not (p y)) xs) (filter (λ y. not (p y)) xs)) ≡ 0 → (b && list_all p xs) ≡ true
    by true rest none = rest none
    by false rest none = cc

pub says-all : {K X : Type 0} (is_of : K → X → Bool) (xs ys : List X) → SaySame is_of xs ys → (p : X → Bool) → list_all p ys ≡ true → list_all p xs ≡ true
says-all is_of xs ys same p all = all-pass p xs (same.counts (λ x. not (p x)) ∙ none-fails p ys all)

count-parts : {X : Type 0} (p q : X → Bool) (xs : List X) →
    length (filter p xs) ≡ length (filter p (filter q xs)) + length (filter p (filter (λ x. not (q x)) xs))
count-parts p q [] = refl
count-parts p q (x ∷ xs) = by (q x) (count-parts p q xs)
  where
    by : (b : Bool) → length (filter p xs) ≡ length (filter p (filter q xs)) + length (filter p (filter (λ y. not (q y)) xs)) →
        length (filter p (x ∷ xs)) ≡ length (filter p (cond b (x ∷ filter q xs) (filter q xs))) + length (filter p (cond (not b) (x ∷ filter (λ y. not (q y)) xs) (filter (λ y. not (q y)) xs)))
    by true rest = omega (arith, rest, count-cons p x xs, count-cons p x (filter q xs))
    by false rest = omega (arith, rest, count-cons p x xs, count-cons p x (filter (λ y. not (q y)) xs))

fewer-left : {X : Type 0} (q : X → Bool) (x : X) (xs : List X) (n : ℕ) → q x ≡ true → length (x ∷ xs) ≤ n + 1 → length (filter (λ y. not (q y)) (x ∷ xs)) ≤ n
fewer-left q x xs n is few =
    rw is (let bound = count-bound (λ y. not (q y)) xs in omega (arith, bound, few))

no-key : {K X : Type 0} (is_of : K → X → Bool) (key : X → K) → ((x : X) → is_of (key x) x ≡ true) → (ys : List X) →
    ((k : K) → filter (is_of k) ys ≡ []) → ys ≡ []
no-key is_of key own [] none = refl
no-key is_of key own (y ∷ ys) none =
    absurd (let gone = ap length (none (key y)) in let first = count-cons (is_of (key y)) y ys in
    let passes : one_if (is_of (key y) y) ≡ 1 = ap one_if (own y) in omega (arith, gone, first, passes))

each-counts : {K X : Type 0} (is_of : K → X → Bool) (key : X → K) → ((x : X) → is_of (key x) x ≡ true) → (n : ℕ) (xs ys : List X) → length xs ≤ n →
    ((k : K) → filter (is_of k) xs ≡ filter (is_of k) ys) → (p : X → Bool) → length (filter p xs) ≡ length (filter p ys)
each-counts is_of key own n [] ys few each p = ap (λ zs. length (filter p zs)) (sym (no-key is_of key own ys (λ k. sym (each k))))
each-counts is_of key own zero (x ∷ xs) ys few each p = absurd (omega (arith, few))
each-counts {X = X} is_of key own (suc n) (x ∷ xs) ys few each p =
    let k = key x in
    let others : X → Bool = λ y. not (is_of k y) in
    let rest = each-counts is_of key own n (filter others (x ∷ xs)) (filter others ys) (fewer-left (is_of k) x xs n (own x) (omega (arith, few)))
    (λ j. filter-swap (is_of j) others (x ∷ xs) ∙ (ap (filter others) (each j) ∙ sym (filter-swap (is_of j) others ys))) p in
    let own_ones = ap (λ zs. length (filter p zs)) (each k) in
    omega (arith, rest, own_ones, count-parts p (is_of k) (x ∷ xs), count-parts p (is_of k) ys)

pub says-each : {K X : Type 0} (is_of : K → X → Bool) (key : X → K) → ((x : X) → is_of (key x) x ≡ true) → (xs ys : List X) →
    ((k : K) → filter (is_of k) xs ≡ filter (is_of k) ys) → SaySame is_of xs ys
says-each is_of key own xs ys each = record {
  each = each;
  counts = λ p. each-counts is_of key own (length xs) xs ys (omega arith) each p;
}
