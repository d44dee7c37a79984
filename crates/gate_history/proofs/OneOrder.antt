-- Sorted lists with the same elements are equal.
-- Used for a base's answers, and by audits.
use Rattle.std.proofs.Common.{◌≡◌, ℕ, ◌+◌, ◌<◌, ◌≤◌, ◌⊎◌, zero, suc, Bool, true, false, cond, List, [], ◌∷◌, length, filter, get_or, inl, inr, refl, sym, ap, subst, ◌∙◌, true≢false, arith}
use Rattle.std.specs.Prelude.{nat_lt}
use Rattle.std.specs.Cmp.{IsStrictWeakOrder, nat_cmp_is}
use Rattle.std.specs.Cmp.Lexicographic.{slice_cmp}
use Rattle.std.specs.List.Sorted.{IsSortedBy}
use Rattle.std.specs.Ordering.{is_eq, is_lt, nat_cmp, ordering_reverse}
use Rattle.std.specs.declared.cmp.Ordering.{Ordering}
use Rattle.std.specs.declared.cmp.Ordering.TheVariants.{Less, Equal, Greater}
use Rattle.std.specs.Str.{bytes_eq}
use Rattle.std.proofs.lemmas.Bool.Decides.{eqb_tells, nat_tests}
use Rattle.std.proofs.lemmas.Cmp.{nat_list_cmp_total}
use Rattle.std.proofs.lemmas.List.Sorted.{ranks_by, sorted_far}
use Rattle.std.proofs.lemmas.Map.Text.{is_eq-slice_cmp}
use Rattle.std.proofs.lemmas.Slice.Eq.{bytes_eq-Decides}
use Rattle.authority_cache.specs.declared.standing_answer.StandingAnswer.{StandingAnswer}
use Rattle.authority_cache.specs.Lists.{is_answer_for}
use Rattle.gate_history.specs.Order.{AnswersRise}

-- ---- elements of a list

-- z is in the list
abbrev pub Among : {X : Type 0} → X → List X → Type 0
Among z [] = ⊥
Among z (x ∷ xs) = (z ≡ x) ⊎ Among z xs

module _ {X : Type 0} (p : X → Bool) (z : X) where
  pub among_filter : (xs : List X) → p z ≡ true → Among z xs → Among z (filter p xs)
  among_filter [] passes there = there
  among_filter (x ∷ xs) passes there = by (p x) refl there (among_filter xs passes)
    where
      by : (b : Bool) → p x ≡ b → (z ≡ x) ⊎ Among z xs → (Among z xs → Among z (filter p xs)) → Among z (cond b (x ∷ filter p xs) (filter p xs))
      by true is (inl e) rest = inl e
      by true is (inr m) rest = inr (rest m)
      by false is (inl e) rest = absurd (true≢false (sym passes ∙ ap p e ∙ is))
      by false is (inr m) rest = rest m

  among_kept : (xs : List X) → Among z (filter p xs) → Among z xs
  among_kept [] there = there
  among_kept (x ∷ xs) there = by (p x) there (among_kept xs)
    where
      by : (b : Bool) → Among z (cond b (x ∷ filter p xs) (filter p xs)) → (Among z (filter p xs) → Among z xs) → (z ≡ x) ⊎ Among z xs
      by true (inl e) rest = inl e
      by true (inr m) rest = inr (rest m)
      by false m rest = inr (rest m)

among_at : {X : Type 0} (z : X) (xs : List X) → Among z xs → (d : X) → (i : ℕ) × (i < length xs) × (get_or xs i d ≡ z)
among_at z [] there d = absurd there
among_at z (x ∷ xs) (inl e) d = (zero, omega arith, sym e)
among_at z (x ∷ xs) (inr m) d = let at = among_at z xs m d in let within = at.1 in (suc at.0, omega arith, at.2)

one_of : {X : Type 0} (z w : X) (xs : List X) → length xs ≤ 1 → Among z xs → Among w xs → z ≡ w
one_of z w [] few there also = absurd there
one_of z w (x ∷ []) few (inl e) (inl f) = e ∙ sym f
one_of z w (x ∷ []) few (inl e) (inr m) = absurd m
one_of z w (x ∷ []) few (inr m) also = absurd m
one_of z w (x ∷ y ∷ xs) few there also = absurd (omega arith)

pub once : {X : Type 0} (p : X → Bool) (xs : List X) (z w : X) → length (filter p xs) ≤ 1 → p z ≡ true → p w ≡ true → Among z xs → Among w xs → z ≡ w
once p xs z w few passes also there here = one_of z w (filter p xs) few (among_filter p z xs passes there) (among_filter p w xs also here)

-- ---- lists in order

module _ {X : Type 0} (lt : X → X → Bool) (o : IsStrictWeakOrder lt) where
  pub irreflexive : (x : X) → lt x x ≡ false
  irreflexive x = by (lt x x) refl
    where
      by : (b : Bool) → lt x x ≡ b → lt x x ≡ false
      by true is = absurd (true≢false (sym is ∙ o.one_way x x is))
      by false is = is

  pub least : (x z : X) (xs : List X) → IsSortedBy lt (x ∷ xs) → Among z (x ∷ xs) → lt z x ≡ false
  least x z xs sorted (inl e) = ap (λ y. lt y x) e ∙ irreflexive x
  least x z xs sorted (inr m) =
      let at = among_at z xs m x in
      let within = at.1 in
      ap (λ y. lt y x) (sym at.2) ∙ sorted_far lt o (x ∷ xs) sorted 0 (suc at.0) x (omega arith) (omega arith)

  pub behind : (x : X) (xs : List X) → IsSortedBy lt (x ∷ xs) → IsSortedBy lt xs
  behind x xs sorted k d from within =
      sorted_far lt o (x ∷ xs) sorted (suc k) (suc (k + 1)) d (omega arith) (omega arith)

  -- sorted lists with the same elements of each key are equal, if ties are
  pub one_order : {K : Type 0} (is_of : K → X → Bool) (key : X → K) → ((x : X) → is_of (key x) x ≡ true) → (xs ys : List X) → IsSortedBy lt xs → IsSortedBy lt ys →
      ((z w : X) → Among z xs → Among w xs → lt z w ≡ false → lt w z ≡ false → z ≡ w) → ((k : K) → filter (is_of k) xs ≡ filter (is_of k) ys) → xs ≡ ys
  one_order is_of key own [] [] sx sy unique same = refl
  one_order is_of key own [] (y ∷ ys) sx sy unique same =
      absurd (subst (Among y) (sym (same (key y))) (among_filter (is_of (key y)) y (y ∷ ys) (own y) (inl refl)))
  one_order is_of key own (x ∷ xs) [] sx sy unique same =
      absurd (subst (Among x) (same (key x)) (among_filter (is_of (key x)) x (x ∷ xs) (own x) (inl refl)))
  one_order is_of key own (x ∷ xs) (y ∷ ys) sx sy unique same =
      let x_in = among_kept (is_of (key x)) x (y ∷ ys) (subst (Among x) (same (key x)) (among_filter (is_of (key x)) x (x ∷ xs) (own x) (inl refl))) in
      let y_in = among_kept (is_of (key y)) y (x ∷ xs) (subst (Among y) (sym (same (key y))) (among_filter (is_of (key y)) y (y ∷ ys) (own y) (inl refl))) in
      let e = unique x y (inl refl) y_in (least y x ys sy x_in) (least x y xs sx y_in) in
      let rest = one_order is_of key own xs ys (behind x xs sx) (behind y ys sy) (λ z w there here. unique z w (inr there) (inr here))
      (λ k. cut (is_of k x) x (filter (is_of k) xs) (filter (is_of k) ys) (same k ∙ ap (λ v. cond (is_of k v) (v ∷ filter (is_of k) ys) (filter (is_of k) ys)) (sym e))) in
      λ i. e i ∷ rest i
    where
      cut : (b : Bool) (v : X) (f g : List X) → cond b (v ∷ f) f ≡ cond b (v ∷ g) g → f ≡ g
      cut true v f g e = cc
      cut false v f g e = e

-- ---- keys that tie

less_is : (a b : ℕ) → a < b → is_lt (nat_cmp a b) ≡ true
less_is a b below = ap is_lt (sym (nat_cmp_is a b Less below))

pub nat_tie : (a b : ℕ) → is_lt (nat_cmp a b) ≡ false → is_lt (nat_cmp b a) ≡ false → a ≡ b
nat_tie a b p q = elim (eqb_tells a b) [ inl e ↦ e.1 | inr d ↦ absurd (by (nat_lt a b) refl d.1) ]
  where
    by : (t : Bool) → nat_lt a b ≡ t → (a ≡ b → ⊥) → ⊥
    by true is apart = true≢false (sym (less_is a b (grind (arith, nat_tests))) ∙ p)
    by false is apart = true≢false (sym (less_is b a (above apart (grind (arith, nat_tests)))) ∙ q)
      where
        above : (a ≡ b → ⊥) → b ≤ a → b < a
        above apart at_most = omega arith

equal_where_neither : (r s : Ordering) → r ≡ ordering_reverse s → is_lt r ≡ false → is_lt s ≡ false → is_eq r ≡ true
equal_where_neither Less s back p q = absurd (true≢false p)
equal_where_neither Equal s back p q = refl
equal_where_neither Greater Less back p q = absurd (true≢false q)
equal_where_neither Greater Equal back p q = absurd (true≢false (sym (ap is_eq back)))
equal_where_neither Greater Greater back p q = absurd (true≢false (sym (ap is_lt back)))

pub text_tie : (a b : List ℕ) → is_lt (slice_cmp nat_cmp a b) ≡ false → is_lt (slice_cmp nat_cmp b a) ≡ false → a ≡ b
text_tie a b p q =
    (bytes_eq-Decides a b).0 (sym (is_eq-slice_cmp a b) ∙ equal_where_neither (slice_cmp nat_cmp a b) (slice_cmp nat_cmp b a) (nat_list_cmp_total.antisymm a b) p q)

pub same_text : (a : List ℕ) → bytes_eq a a ≡ true
same_text a = (bytes_eq-Decides a a).1 refl

-- ---- the answers of a base

pub one_standing : (xs ys : List StandingAnswer) → AnswersRise xs → AnswersRise ys → ((a : List ℕ) → length (filter (is_answer_for a) xs) ≤ 1) → ((a : List ℕ) → filter (is_answer_for a) xs ≡ filter (is_answer_for a) ys) → xs ≡ ys
one_standing xs ys sx sy few same =
    one_order _ (ranks_by nat_list_cmp_total (λ (s : StandingAnswer). s.authority)) is_answer_for (λ s. s.authority) (λ s. same_text s.authority) xs ys sx sy
    (λ z w there here p q. once (is_answer_for z.authority) xs z w (few z.authority) (same_text z.authority) (ap (λ a. bytes_eq a z.authority) (sym (text_tie z.authority w.authority p q)) ∙ same_text z.authority) there here) same
