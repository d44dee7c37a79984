-- Lists in order with one element more, and rows behind others.
-- Used by `StandingRows` and `LoadedRows`.
use Rattle.std.proofs.Common.{◌≡◌, ℕ, ◌+◌, ◌≤◌, All, Bool, true, false, cond, List, [], ◌∷◌, ◌++◌, ◌⊎◌, inl, inr, length, get_or, filter, flat_map, map, refl, sym, ap, subst, ◌∙◌, true≢false, arith, length-append, ◌-◌}
use Rattle.std.specs.Prelude.{nat_lt}
use Rattle.std.specs.Cmp.{IsStrictWeakOrder}
use Rattle.std.specs.List.Sorted.{IsSortedBy}
use Rattle.std.proofs.lemmas.Bool.Decides.{nat_tests}
use Rattle.std.proofs.lemmas.List.{get_or_append_left, get_or_push}
use Rattle.std.proofs.lemmas.List.Elements.{All-from_get_or, All-get_or, All-head, All-nil, All-tail}
use Rattle.std.proofs.lemmas.List.Kept.{IsSortedBy-push}
use Rattle.std.proofs.lemmas.List.Sorted.{sorted_far}
use Rattle.authority_cache.specs.Calls.{one_if}
use Rattle.authority_cache.proofs.CallerLemmas.{count-push}
use Rattle.crawl_audit.specs.declared.first_base.LastLine.{LastLine}
use Rattle.crawl_audit.specs.declared.first_base.LastLine.TheVariants as lasts
use Rattle.crawl_audit.specs.FirstBase.{is_behind, key_of, kind_place, last_from}
use Rattle.crawl_audit.specs.OpenRows.{OpenRow, Answered, InFlight, Greatest, Unspent, Running}
use Rattle.crawl_audit.proofs.RowKinds.{FromKind, kind}

-- ---- a list by its last element

-- the list ends with this
pub record Ends {X : Type 0} (xs : List X) : Type 0 where
  pub front : List X
  pub last : X
  pub is : xs ≡ front ++ last ∷ []

pub ends : {X : Type 0} (xs : List X) → (xs ≡ []) ⊎ Ends xs
ends [] = inl refl
ends (x ∷ xs) = by (ends xs)
  where
    by : (xs ≡ []) ⊎ Ends xs → (x ∷ xs ≡ []) ⊎ Ends (x ∷ xs)
    by (inl none) = inr (record { front = []; last = x; is = ap (λ l. x ∷ l) none })
    by (inr e) = inr (record { front = x ∷ e.front; last = e.last; is = ap (λ l. x ∷ l) e.is })

-- ---- counts with one element more

pub once_push : {X K : Type 0} (is_of : K → X → Bool) (xs : List X) (y : X) → ((k : K) → length (filter (is_of k) xs) ≤ 1) → ((k : K) → is_of k y ≡ true → filter (is_of k) xs ≡ []) →
    (k : K) → length (filter (is_of k) (xs ++ y ∷ [])) ≤ 1
once_push is_of xs y once none k = by (is_of k y) refl
  where
    by : (b : Bool) → is_of k y ≡ b → length (filter (is_of k) (xs ++ y ∷ [])) ≤ 1
    by true is = omega (arith, count-push (is_of k) xs y, ap one_if is, ap length (none k is))
    by false is = omega (arith, count-push (is_of k) xs y, ap one_if is, once k)

pub others_none : {X : Type 0} (test : X → Bool) (xs : List X) (y : X) → length (filter test (xs ++ y ∷ [])) ≤ 1 → test y ≡ true → length (filter test xs) ≡ 0
others_none test xs y once own = omega (arith, count-push test xs y, ap one_if own)

-- ---- lists in order

module _ {X : Type 0} (lt : X → X → Bool) (o : IsStrictWeakOrder lt) where
  all_less : (xs : List X) (z y : X) → IsSortedBy lt (xs ++ z ∷ []) → lt z y ≡ true → All (λ x. lt x y ≡ true) (xs ++ z ∷ [])
  all_less xs z y up below =
      let w = xs ++ z ∷ [] in
      All-from_get_or (λ x. lt x y ≡ true) w z (λ i within.
      (let long = length-append xs (z ∷ []) in
      let far = sorted_far lt o w up i (length xs) z (omega arith) (omega arith) in
      let last = get_or_push xs z z (length xs) refl in
      by (get_or w i z) (lt (get_or w i z) y) refl ((λ j. lt (sym last j) (get_or w i z)) ∙ far)))
    where
      by : (x : X) (b : Bool) → lt x y ≡ b → lt z x ≡ false → lt x y ≡ true
      by x true is far = is
      by x false is far = absurd (true≢false (sym below ∙ o.chain z x y far is))

  pub push_sorted : (xs : List X) (y : X) → IsSortedBy lt xs → All (λ x. lt x y ≡ true) xs → IsSortedBy lt (xs ++ y ∷ [])
  push_sorted xs y up less =
      IsSortedBy-push lt xs y up (λ d some. o.one_way _ _ (All-get_or (λ x. lt x y ≡ true) xs (length xs - 1) d (omega arith) less))

  pub none_like : (test : X → Bool) (y : X) → ((x : X) → test x ≡ true → lt x y ≡ false) → (xs : List X) → All (λ x. lt x y ≡ true) xs → filter test xs ≡ []
  none_like test y tied [] less = refl
  none_like test y tied (x ∷ xs) less = by (test x) refl (none_like test y tied xs (All-tail (λ x. lt x y ≡ true) x xs less))
    where
      by : (b : Bool) → test x ≡ b → filter test xs ≡ [] → cond b (x ∷ filter test xs) (filter test xs) ≡ []
      by true is rest = absurd (true≢false (sym (All-head (λ x. lt x y ≡ true) x xs less) ∙ tied x is))
      by false is rest = rest

  -- the last but one is less than the last, if no other passes its test
  pub strict : (test : X → Bool) (front : List X) (z y : X) → IsSortedBy lt ((front ++ z ∷ []) ++ y ∷ []) → length (filter test ((front ++ z ∷ []) ++ y ∷ [])) ≤ 1 → test y ≡ true →
      (lt z y ≡ false → lt y z ≡ false → test z ≡ true) → lt z y ≡ true
  strict test front z y up once own tied = by (lt z y) refl
    where
      not_above : lt y z ≡ false
      not_above =
          let xs = front ++ z ∷ [] in
          let long = length-append front (z ∷ []) in
          let longer = length-append xs (y ∷ []) in
          let k = length front in
          let last = get_or_push xs y y (k + 1) (omega arith) in
          let before = get_or_append_left xs (y ∷ []) y k (omega arith) ∙ get_or_push front z y k refl in
          (λ i. lt (sym last i) (sym before i)) ∙ up k y (omega arith) (omega arith)

      by : (b : Bool) → lt z y ≡ b → lt z y ≡ true
      by true is = is
      by false is =
          let also = tied is not_above in
          absurd (omega (arith, others_none test (front ++ z ∷ []) y once own, count-push test front z, ap one_if also))

-- ---- the last line of rows

pub last_append : (line : LastLine) (xs ys : List OpenRow) → last_from line (xs ++ ys) ≡ last_from (last_from line xs) ys
last_append line [] ys = refl
last_append line (x ∷ xs) ys = last_append (key_of x) xs ys

pub last_push : (line : LastLine) (xs : List OpenRow) (row : OpenRow) → last_from line (xs ++ row ∷ []) ≡ key_of row
last_push line xs row = last_append line xs (row ∷ [])

last_map : {X : Type 0} (f : X → OpenRow) (line : LastLine) (front : List X) (z : X) → last_from line (map f (front ++ z ∷ [])) ≡ key_of (f z)
last_map f line [] z = refl
last_map f line (x ∷ front) z = last_map f (key_of (f x)) front z

pub behind_all : {X : Type 0} (f : X → OpenRow) (row : OpenRow) → ((x : X) → is_behind (key_of (f x)) row ≡ true) → (line : LastLine) → is_behind line row ≡ true → (xs : List X) →
    is_behind (last_from line (map f xs)) row ≡ true
behind_all f row each line first [] = first
behind_all f row each line first (x ∷ xs) = behind_all f row each (key_of (f x)) (each x) xs

-- rows of one kind after a line
module _ {X : Type 0} (lt : X → X → Bool) (o : IsStrictWeakOrder lt) (f : X → OpenRow) (line : LastLine)
    (own : (z y : X) → is_behind (key_of (f z)) (f y) ≡ lt z y) (first : (y : X) → is_behind line (f y) ≡ true) where
  pub less_behind : (xs : List X) (y : X) → IsSortedBy lt xs → is_behind (last_from line (map f xs)) (f y) ≡ true → All (λ x. lt x y ≡ true) xs
  less_behind xs y up behind = elim (ends xs) [
    | inl none ↦ subst (All (λ x. lt x y ≡ true)) (sym none) (All-nil (λ x. lt x y ≡ true))
    | inr e ↦ subst (All (λ x. lt x y ≡ true)) (sym e.is) (all_less lt o e.front e.last y (subst (IsSortedBy lt) e.is up)
        (sym (own e.last y) ∙ ap (λ l. is_behind l (f y)) (sym (last_map f line e.front e.last)) ∙ ap (λ l. is_behind (last_from line (map f l)) (f y)) (sym e.is) ∙ behind))
  ]

  pub behind_last : (test : X → Bool) (xs : List X) (y : X) → IsSortedBy lt (xs ++ y ∷ []) → length (filter test (xs ++ y ∷ [])) ≤ 1 → test y ≡ true →
      ((z : X) → lt z y ≡ false → lt y z ≡ false → test z ≡ true) → is_behind (last_from line (map f xs)) (f y) ≡ true
  behind_last test xs y up once passes tied = elim (ends xs) [
    | inl none ↦ ap (λ l. is_behind (last_from line (map f l)) (f y)) none ∙ first y
    | inr e ↦ ap (λ l. is_behind (last_from line (map f l)) (f y)) e.is ∙ ap (λ l. is_behind l (f y)) (last_map f line e.front e.last) ∙ own e.last y
        ∙ strict lt o test e.front e.last y (subst (λ l. IsSortedBy lt (l ++ y ∷ [])) e.is up) (subst (λ l. length (filter test (l ++ y ∷ [])) ≤ 1) e.is once) passes (tied e.last)
  ]

-- ---- rows by kinds with one more row

less_at_most : (a b : ℕ) → nat_lt a b ≡ true → a ≤ b
less_at_most a b is = grind (arith, nat_tests)

pub behind_kind : (line : LastLine) (row : OpenRow) → is_behind line row ≡ true → kind_place line ≤ kind row
behind_kind (lasts.Answered a) (Answered s) is = omega arith
behind_kind (lasts.InFlight n) (InFlight t) is = omega arith
behind_kind (lasts.Greatest n) (Greatest g) is = omega arith
behind_kind (lasts.Unspent n) (Unspent p) is = omega arith
behind_kind (lasts.Running n) (Running p) is = omega arith
behind_kind line row is = less_at_most (kind_place line) (kind row) is

pub kinds_push : (line : LastLine) (rows : List OpenRow) (row : OpenRow) → FromKind (kind_place line) rows → kind_place (last_from line rows) ≤ kind row → FromKind (kind_place line) (rows ++ row ∷ [])
kinds_push line [] row from at_most = (at_most, tt)
kinds_push line (x ∷ rows) row from at_most = (from.0, kinds_push (key_of x) rows row from.1 at_most)

up_to : (k : ℕ) (rows : List OpenRow) (row : OpenRow) → FromKind k (rows ++ row ∷ []) → k ≤ kind row
up_to k [] row from = from.0
up_to k (x ∷ rows) row from = let first = from.0 in let rest = up_to (kind x) rows row from.1 in omega arith

pub none_above : {X : Type 0} (g : OpenRow → List X) (row : OpenRow) → ((r : OpenRow) → kind r ≤ kind row → g r ≡ []) → (k : ℕ) (rows : List OpenRow) → FromKind k (rows ++ row ∷ []) → flat_map g rows ≡ []
none_above g row none k [] from = refl
none_above g row none k (x ∷ rows) from =
    let here = none x (up_to (kind x) rows row from.1) in
    let rest = none_above g row none (kind x) rows from.1 in
    λ i. here i ++ rest i
