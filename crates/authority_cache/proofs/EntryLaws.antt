-- Entries of maps: look-ups, counts and tests after an entry was written, added or removed.
-- Used by `SiteLaws` for what is known of authorities.
use Rattle.std.proofs.Common.{◌≡◌, ◌≢◌, ℕ, ◌+◌, ◌-◌, ◌<◌, ◌≤◌, ◌==◌, ◌⊎◌, zero, suc, Bool, true, false, cond, ◌&&◌, List, [], ◌∷◌, ◌++◌, length, filter, map, get_or, set, Some, None, is_some, unwrap_or, inl, inr, refl, sym, ap, ◌∙◌, true≢false, arith}
use Rattle.std.specs.Prelude.{slice_get, swap_remove}
use Rattle.std.specs.List.{list_all, sum_by}
use Rattle.std.specs.Map.{keys_of, lookup, set_value, values_of}
use Rattle.std.specs.Option.{option_map}
use Rattle.std.proofs.lemmas.Bool.{eqb-true, eqb-false}
use Rattle.std.proofs.lemmas.List.{get_or-set_other, get_or-set_same, get_or-take, length-set, length-take-le}
use Rattle.std.proofs.lemmas.List.Sorted.{IsPermutation-swap_remove, sum_by_popped}
use Rattle.std.proofs.lemmas.List.Sums.{sum_by-cons}
use Rattle.std.proofs.lemmas.Option.{slice_get-get_or}
use Rattle.indexmap.specs.IndexMap.{set_value_at}
use Rattle.authority_cache.specs.Calls.{one_if}

pub count-cons : {X : Type 0} (test : X → Bool) (x : X) (xs : List X) →
    length (filter test (x ∷ xs)) ≡ one_if (test x) + length (filter test xs)
count-cons test x xs = by (test x)
  where
    by : (b : Bool) → length (cond b (x ∷ filter test xs) (filter test xs)) ≡ one_if b + length (filter test xs)
    by true = omega arith
    by false = omega arith

pub count-push : {X : Type 0} (test : X → Bool) (xs : List X) (x : X) →
    length (filter test (xs ++ x ∷ [])) ≡ length (filter test xs) + one_if (test x)
count-push test [] x = omega (arith, count-cons test x [])
count-push test (y ∷ xs) x =
    let rest = count-push test xs x in omega (arith, count-cons test y (xs ++ x ∷ []), count-cons test y xs)

-- a count of what passes a test is at most that of all
pub count-bound : {X : Type 0} (test : X → Bool) (xs : List X) → length (filter test xs) ≤ length xs
count-bound test [] = omega arith
count-bound test (x ∷ xs) = by (test x) (count-bound test xs)
  where
    by : (b : Bool) → length (filter test xs) ≤ length xs → length (cond b (x ∷ filter test xs) (filter test xs)) ≤ length (x ∷ xs)
    by true fewer = omega arith
    by false fewer = omega arith

pub count-all : {X : Type 0} (test : X → Bool) (xs : List X) → list_all test xs ≡ true → length (filter test xs) ≡ length xs
count-all test [] all = refl
count-all test (x ∷ xs) all = by (test x) (count-all test xs) all
  where
    by : (b : Bool) → (list_all test xs ≡ true → length (filter test xs) ≡ length xs) → (b && list_all test xs) ≡ true →
        length (cond b (x ∷ filter test xs) (filter test xs)) ≡ length (x ∷ xs)
    by true rest all = let same = rest all in omega arith
    by false rest all = absurd (true≢false (sym all))

module _ {K X : Type 0} where
  pub all-lookup : (test : X → Bool) (key : K → Bool) (es : List (K × X)) (v : X) → list_all (λ e. test e.1) es ≡ true →
      lookup key es ≡ Some v → test v ≡ true
  all-lookup test key [] v all found = cc
  all-lookup test key (e ∷ es) v all found = by (key e.0) (test e.1) refl (all-lookup test key es v) all found
    where
      by : (b c : Bool) → test e.1 ≡ c → (list_all (λ e. test e.1) es ≡ true → lookup key es ≡ Some v → test v ≡ true) →
          (c && list_all (λ e. test e.1) es) ≡ true → cond b (Some e.1) (lookup key es) ≡ Some v → test v ≡ true
      by true true passes rest all found = let same : e.1 ≡ v = cc in rw (← same) passes
      by false true passes rest all found = rest all found
      by b false passes rest all found = absurd (true≢false (sym all))

  pub all-set_value : (test : X → Bool) (key : K → Bool) (es : List (K × X)) (w : X) → list_all (λ e. test e.1) es ≡ true →
      test w ≡ true → list_all (λ e. test e.1) (set_value key es w) ≡ true
  all-set_value test key [] w all passes = refl
  all-set_value test key (e ∷ es) w all passes = by (key e.0) (test e.1) refl (λ rest. all-set_value test key es w rest passes) all
    where
      by : (b c : Bool) → test e.1 ≡ c → (list_all (λ e. test e.1) es ≡ true → list_all (λ e. test e.1) (set_value key es w) ≡ true) →
          (c && list_all (λ e. test e.1) es) ≡ true → list_all (λ e. test e.1) (cond b ((e.0, w) ∷ es) (e ∷ set_value key es w)) ≡ true
      by true true was rest all = rw passes all
      by false true was rest all = rw was (rest all)
      by b false was rest all = absurd (true≢false (sym all))

  pub count-set_value : (test : X → Bool) (key : K → Bool) (es : List (K × X)) (v w : X) → lookup key es ≡ Some v →
      length (filter (λ e. test e.1) (set_value key es w)) + one_if (test v) ≡ length (filter (λ e. test e.1) es) + one_if (test w)
  count-set_value test key [] v w found = cc
  count-set_value test key (e ∷ es) v w found = by (key e.0) (count-set_value test key es v w) found
    where
      by : (b : Bool) → (lookup key es ≡ Some v →
          length (filter (λ e. test e.1) (set_value key es w)) + one_if (test v) ≡ length (filter (λ e. test e.1) es) + one_if (test w)) →
          cond b (Some e.1) (lookup key es) ≡ Some v →
          length (filter (λ e. test e.1) (cond b ((e.0, w) ∷ es) (e ∷ set_value key es w))) + one_if (test v)
          ≡ length (filter (λ e. test e.1) (e ∷ es)) + one_if (test w)
      by true rest found =
          let same : e.1 ≡ v = cc in
          rw (← same) (omega (arith, count-cons (λ (e : K × X). test e.1) (e.0, w) es, count-cons (λ (e : K × X). test e.1) e es))
      by false rest found =
          let later = rest found in
          omega (arith, count-cons (λ (e : K × X). test e.1) e (set_value key es w), count-cons (λ (e : K × X). test e.1) e es)

  pub set_value-same : (key : K → Bool) (es : List (K × X)) (v : X) → lookup key es ≡ Some v → set_value key es v ≡ es
  set_value-same key [] v found = refl
  set_value-same key (e ∷ es) v found = by (key e.0) (set_value-same key es v) found
    where
      by : (b : Bool) → (lookup key es ≡ Some v → set_value key es v ≡ es) → cond b (Some e.1) (lookup key es) ≡ Some v →
          cond b ((e.0, v) ∷ es) (e ∷ set_value key es v) ≡ e ∷ es
      by true rest found = let same : e.1 ≡ v = cc in ap (λ x. (e.0, x) ∷ es) (sym same)
      by false rest found = ap (λ later. e ∷ later) (rest found)

  pub lookup-push : (key : K → Bool) (es : List (K × X)) (k : K) (v : X) → lookup key es ≡ None →
      lookup key (es ++ (k, v) ∷ []) ≡ cond (key k) (Some v) None
  lookup-push key [] k v none = refl
  lookup-push key (e ∷ es) k v none = by (key e.0) (lookup-push key es k v) none
    where
      by : (b : Bool) → (lookup key es ≡ None → lookup key (es ++ (k, v) ∷ []) ≡ cond (key k) (Some v) None) →
          cond b (Some e.1) (lookup key es) ≡ None →
          cond b (Some e.1) (lookup key (es ++ (k, v) ∷ [])) ≡ cond (key k) (Some v) None
      by true rest none = cc
      by false rest none = rest none

  pub lookup-push_other : (key : K → Bool) (es : List (K × X)) (k : K) (v : X) → key k ≡ false →
      lookup key (es ++ (k, v) ∷ []) ≡ lookup key es
  lookup-push_other key [] k v other = rw other refl
  lookup-push_other key (e ∷ es) k v other = by (key e.0) (lookup-push_other key es k v other)
    where
      by : (b : Bool) → lookup key (es ++ (k, v) ∷ []) ≡ lookup key es →
          cond b (Some e.1) (lookup key (es ++ (k, v) ∷ [])) ≡ cond b (Some e.1) (lookup key es)
      by true rest = refl
      by false rest = rest

  pub lookup-map : {L Y : Type 0} (f : K → L) (g : X → Y) (test : L → Bool) (es : List (K × X)) →
      lookup test (map (λ e. (f e.0, g e.1)) es) ≡ option_map g (lookup (λ k. test (f k)) es)
  lookup-map f g test [] = refl
  lookup-map f g test (e ∷ es) = by (test (f e.0)) (lookup-map f g test es)
    where
      by : (b : Bool) → lookup test (map (λ e. (f e.0, g e.1)) es) ≡ option_map g (lookup (λ k. test (f k)) es) →
          cond b (Some (g e.1)) (lookup test (map (λ e. (f e.0, g e.1)) es)) ≡ option_map g (cond b (Some e.1) (lookup (λ k. test (f k)) es))
      by true rest = refl
      by false rest = rest

  pub count-map : {L Y : Type 0} (f : K → L) (g : X → Y) (test : Y → Bool) (es : List (K × X)) →
      length (filter (λ (p : L × Y). test p.1) (map (λ e. (f e.0, g e.1)) es)) ≡ length (filter (λ e. test (g e.1)) es)
  count-map f g test [] = refl
  count-map {L = L} {Y = Y} f g test (e ∷ es) =
      omega (
        arith,
        count-map f g test es,
        count-cons (λ (p : L × Y). test p.1) (f e.0, g e.1) (map (λ e. (f e.0, g e.1)) es),
        count-cons (λ (p : K × X). test (g p.1)) e es,
      )

  pub all-map : {L Y : Type 0} (f : K → L) (g : X → Y) (test : Y → Bool) (es : List (K × X)) →
      list_all (λ (p : L × Y). test p.1) (map (λ e. (f e.0, g e.1)) es) ≡ list_all (λ e. test (g e.1)) es
  all-map f g test [] = refl
  all-map f g test (e ∷ es) = ap (λ later. test (g e.1) && later) (all-map f g test es)

pub all-push : {X : Type 0} (test : X → Bool) (xs : List X) (x : X) → list_all test xs ≡ true → test x ≡ true →
    list_all test (xs ++ x ∷ []) ≡ true
all-push test [] x all passes = rw passes refl
all-push test (y ∷ xs) x all passes = by (test y) refl (λ rest. all-push test xs x rest passes) all
  where
    by : (b : Bool) → test y ≡ b → (list_all test xs ≡ true → list_all test (xs ++ x ∷ []) ≡ true) → (b && list_all test xs) ≡ true →
        list_all test (y ∷ (xs ++ x ∷ [])) ≡ true
    by true is rest all = rw is (rest all)
    by false is rest all = absurd (true≢false (sym all))

pub all-at : {X : Type 0} (test : X → Bool) (xs : List X) (i : ℕ) (x : X) → list_all test xs ≡ true → slice_get xs i ≡ Some x → test x ≡ true
all-at test [] i x all at = absurd (true≢false (ap is_some (sym at)))
all-at test (y ∷ xs) zero x all at = by (test y) refl all
  where
    by : (b : Bool) → test y ≡ b → (b && list_all test xs) ≡ true → test x ≡ true
    by true is all = ap test (sym (ap (λ o. unwrap_or o y) at)) ∙ is
    by false is all = absurd (true≢false (sym all))
all-at test (y ∷ xs) (suc i) x all at = by (test y) all (λ rest. all-at test xs i x rest at)
  where
    by : (b : Bool) → (b && list_all test xs) ≡ true → (list_all test xs ≡ true → test x ≡ true) → test x ≡ true
    by true all rest = rest all
    by false all rest = absurd (true≢false (sym all))

pub all-from : {X : Type 0} (test : X → Bool) (xs : List X) → ((i : ℕ) (x : X) → slice_get xs i ≡ Some x → test x ≡ true) → list_all test xs ≡ true
all-from test [] each = refl
all-from test (x ∷ xs) each = rw (each 0 x refl) (all-from test xs (λ i y at. each (suc i) y at))

pub count-alike : {X : Type 0} (ok test other : X → Bool) → ((x : X) → ok x ≡ true → test x ≡ other x) → (xs : List X) → list_all ok xs ≡ true →
    length (filter test xs) ≡ length (filter other xs)
count-alike ok test other same [] all = refl
count-alike ok test other same (x ∷ xs) all = by (ok x) refl all (λ later. count-alike ok test other same xs later)
  where
    by : (b : Bool) → ok x ≡ b → (b && list_all ok xs) ≡ true → (list_all ok xs ≡ true → length (filter test xs) ≡ length (filter other xs)) →
        length (filter test (x ∷ xs)) ≡ length (filter other (x ∷ xs))
    by true is all later =
        let here : one_if (test x) ≡ one_if (other x) = ap one_if (same x is) in
        omega (arith, here, later all, count-cons test x xs, count-cons other x xs)
    by false is all later = absurd (true≢false (sym all))

pub count-none : {X : Type 0} (xs : List X) → length (filter (λ (x : X). false) xs) ≡ 0
count-none [] = refl
count-none (x ∷ xs) = count-none xs

pub at-within : {X : Type 0} (xs : List X) (i : ℕ) (x : X) → slice_get xs i ≡ Some x → (i < length xs) × (get_or xs i x ≡ x)
at-within [] i x at = absurd (true≢false (ap is_some (sym at)))
at-within (y ∷ xs) zero x at = (omega arith, ap (λ o. unwrap_or o y) at)
at-within (y ∷ xs) (suc i) x at = let rest = at-within xs i x at in (omega (arith, rest.0), rest.1)

pub entry-at : {X : Type 0} (xs : List X) (i : ℕ) → i < length xs → (x : X) × (slice_get xs i ≡ Some x)
entry-at [] i low = absurd (omega (arith, low))
entry-at (x ∷ xs) zero low = (x, refl)
entry-at (x ∷ xs) (suc i) low = entry-at xs i (omega (arith, low))

at-from : {X : Type 0} (xs : List X) (i : ℕ) (d x : X) → i < length xs → get_or xs i d ≡ x → slice_get xs i ≡ Some x
at-from xs i d x low is = slice_get-get_or xs i d low ∙ ap Some is

module _ {K X : Type 0} where
  pub at-written_other : (es : List (K × X)) (i j : ℕ) (w : X) → j ≢ i → slice_get (set_value_at es i w) j ≡ slice_get es j
  at-written_other [] i j w other = refl
  at-written_other (e ∷ es) zero zero w other = absurd (other refl)
  at-written_other (e ∷ es) zero (suc j) w other = refl
  at-written_other (e ∷ es) (suc i) zero w other = refl
  at-written_other (e ∷ es) (suc i) (suc j) w other = at-written_other es i j w (λ same. other (ap suc same))

  pub written-same : (es : List (K × X)) (i : ℕ) (v : X) → slice_get (values_of es) i ≡ Some v → set_value_at es i v ≡ es
  written-same [] i v at = refl
  written-same (e ∷ es) zero v at = ap (λ o. (e.0, unwrap_or o v) ∷ es) (sym at)
  written-same (e ∷ es) (suc i) v at = ap (λ later. e ∷ later) (written-same es i v at)

  pub keys-written : (es : List (K × X)) (i : ℕ) (w : X) → keys_of (set_value_at es i w) ≡ keys_of es
  keys-written [] i w = refl
  keys-written (e ∷ es) zero w = refl
  keys-written (e ∷ es) (suc i) w = ap (λ ks. e.0 ∷ ks) (keys-written es i w)

  pub at-written : (es : List (K × X)) (i : ℕ) (e : K × X) (w : X) → slice_get es i ≡ Some e → slice_get (set_value_at es i w) i ≡ Some (e.0, w)
  at-written [] i e w at = absurd (true≢false (ap is_some (sym at)))
  at-written (f ∷ es) zero e w at = ap (λ o. Some ((unwrap_or o f).0, w)) at
  at-written (f ∷ es) (suc i) e w at = at-written es i e w at

pub at-push : {X : Type 0} (xs : List X) (x y : X) (i : ℕ) → slice_get (xs ++ x ∷ []) i ≡ Some y → (slice_get xs i ≡ Some y) ⊎ (x ≡ y)
at-push [] x y zero at = inr (ap (λ o. unwrap_or o x) at)
at-push [] x y (suc i) at = absurd (true≢false (ap is_some (sym at)))
at-push (z ∷ xs) x y zero at = inl at
at-push (z ∷ xs) x y (suc i) at = at-push xs x y i at

-- after an element was removed and the last took its place, each element was there before, at its own index or
-- elsewhere
pub at-swapped : {X : Type 0} (xs : List X) (i j : ℕ) (d x : X) → i < length xs → slice_get (swap_remove xs i d) j ≡ Some x →
    (j ≢ i → slice_get xs j ≡ Some x) × ((k : ℕ) × (k ≢ i) × (slice_get xs k ≡ Some x))
at-swapped {X = X} xs i j d x low at = by (j == i) refl
  where
    last : X
    last = get_or xs (length xs - 1) d

    there : (j < length (swap_remove xs i d)) × (get_or (swap_remove xs i d) j x ≡ x)
    there = at-within (swap_remove xs i d) j x at

    few : length (swap_remove xs i d) ≡ length xs - 1
    few = length-take-le (length xs - 1) (set xs i last) (omega (arith, length-set xs i last))

    is : get_or (set xs i last) j x ≡ x
    is = sym (get_or-take (length xs - 1) (set xs i last) j x (omega (arith, few, there.0))) ∙ there.1

    by : (b : Bool) → (j == i) ≡ b → (j ≢ i → slice_get xs j ≡ Some x) × ((k : ℕ) × (k ≢ i) × (slice_get xs k ≡ Some x))
    by true same =
        let here : j ≡ i = eqb-true j i same in
        let moved : last ≡ x = sym (get_or-set_same xs i last x low) ∙ (ap (λ k. get_or (set xs i last) k x) (sym here) ∙ is) in
        (λ other. absurd (other here), (length xs - 1, (λ same. omega (arith, same, here, few, there.0)), at-from xs (length xs - 1) d x (omega (arith, low)) moved))
    by false other =
        let apart : j ≢ i = eqb-false j i other in
        let stays : slice_get xs j ≡ Some x = at-from xs j x x (omega (arith, few, there.0)) (sym (get_or-set_other xs i j last x apart) ∙ is) in
        (λ o. stays, (j, apart, stays))

pub length-swapped : {X : Type 0} (xs : List X) (i : ℕ) (d : X) → i < length xs → length (swap_remove xs i d) + 1 ≡ length xs
length-swapped xs i d low =
    let few = length-take-le (length xs - 1) (set xs i (get_or xs (length xs - 1) d)) (omega (arith, length-set xs i (get_or xs (length xs - 1) d))) in
    omega (arith, few, low)

count-sum : {X : Type 0} (test : X → Bool) (xs : List X) → length (filter test xs) ≡ sum_by (λ x. one_if (test x)) xs
count-sum test [] = refl
count-sum test (x ∷ xs) = omega (arith, count-sum test xs, count-cons test x xs, sum_by-cons (λ x. one_if (test x)) x xs)

pub count-swapped : {X : Type 0} (test : X → Bool) (xs : List X) (i : ℕ) (x : X) → slice_get xs i ≡ Some x →
    length (filter test (swap_remove xs i x)) + one_if (test x) ≡ length (filter test xs)
count-swapped test xs i x at =
    let there = at-within xs i x at in
    let total = sum_by_popped (λ y. one_if (test y)) x xs (swap_remove xs i x) (IsPermutation-swap_remove xs i x there.0 (sym there.1)) in
    omega (arith, total, count-sum test xs, count-sum test (swap_remove xs i x))
