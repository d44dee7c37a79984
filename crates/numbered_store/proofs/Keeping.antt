-- What a store keeps, with one more and with one less, and what is sought in it.
-- Used by `Store`, and by what keeps values in one.
use Rattle.std.proofs.Common.{◌≡◌, ℕ, ◌<◌, ◌==◌, ◌&&◌, ◌||◌, Bool, true, false, eqb, List, [], ◌∷◌, ◌++◌, length, slice_get, get_or, swap_remove, Option, option_map, Some, None, IfNone, is_some, IsSome, slice_index_or, cond, refl, sym, ap, subst, ◌∙◌, append_assoc, All, IsPermutation, true≢false}
use Rattle.std.proofs.lemmas.Bool.{eqb-true, eqb-false, eq-eqb, ne_eqb}
use Rattle.std.proofs.lemmas.List.{map-append}
use Rattle.std.proofs.lemmas.List.Elements.{All-head, All-tail}
use Rattle.std.proofs.lemmas.List.Folds.{list_any-append}
use Rattle.std.proofs.lemmas.List.Sorted.{IsPermutation-append_left, IsPermutation-append_right, IsPermutation-map, IsPermutation-middle, IsPermutation-swap_remove, IsPermutation-sym, IsPermutation-to_front, IsPermutation-trans}
use Rattle.std.proofs.lemmas.Map.Keys.{any_passes_from_place}
use Rattle.std.proofs.Math.Bool.{or-true}
use Rattle.std.proofs.lemmas.Option.{get_or_from_slice_get, slice_get-map, slice_get_within}
use Rattle.std.specs.List.{AllByRecursion, IsDistinct, list_any}
use Rattle.std.specs.Map.{keys_of, lookup, lookup_key, values_of}
use Rattle.numbered_store.specs.Stores.{StoreView, is_sought, kept_at, kept_in}
use Rattle.numbered_store.specs.declared.store.Spot.{Spot}
use Rattle.numbered_store.specs.declared.store.Spot.TheVariants.{First, Twin}

pub first_out : {X : Type 0} (es : List (ℕ × X)) (i : ℕ) (e : ℕ × X) (twins : List X) → slice_get es i ≡ Some e →
    IsPermutation (values_of es ++ twins) (e.1 ∷ (values_of (swap_remove es i e) ++ twins))
first_out es i e twins at =
    IsPermutation-append_left twins _ _ (IsPermutation-map (λ e. e.1) es (e ∷ swap_remove es i e) (IsPermutation-swap_remove es i e (slice_get_within es i e at) (sym (get_or_from_slice_get es i e e at))))

pub twin_out : {X : Type 0} (first twins : List X) (i : ℕ) (x : X) → i < length twins → x ≡ get_or twins i x →
    IsPermutation (first ++ twins) (x ∷ (first ++ swap_remove twins i x))
twin_out first twins i x within at =
    IsPermutation-trans _ _ _ (IsPermutation-append_right first _ _ (IsPermutation-swap_remove twins i x within at)) (IsPermutation-middle first x (swap_remove twins i x))

pub first_in : {X : Type 0} (es : List (ℕ × X)) (number : ℕ) (x : X) (twins : List X) →
    IsPermutation (x ∷ (values_of es ++ twins)) (values_of (es ++ (number, x) ∷ []) ++ twins)
first_in es number x twins =
    let split = ap (λ vs. vs ++ twins) (map-append (λ e. e.1) es ((number, x) ∷ [])) ∙ append_assoc (values_of es) (x ∷ []) twins in
    subst (IsPermutation (x ∷ (values_of es ++ twins))) (sym split) (IsPermutation-sym _ _ (IsPermutation-middle (values_of es) x twins))

pub twin_in : {X : Type 0} (first twins : List X) (x : X) → IsPermutation (x ∷ (first ++ twins)) (first ++ (twins ++ x ∷ []))
twin_in first twins x =
    subst (IsPermutation (x ∷ (first ++ twins))) (append_assoc first twins (x ∷ [])) (IsPermutation-sym _ _ (IsPermutation-to_front (first ++ twins) x))

passes : {X : Type 0} (test : ℕ → Bool) (es : List (ℕ × X)) (k : ℕ) → lookup_key test es ≡ Some k → test k ≡ true
passes test [] k found = absurd (true≢false (ap is_some (sym found)))
passes test (e ∷ es) k found = by (test e.0) refl (passes test es k)
  where
    by : (b : Bool) → test e.0 ≡ b → (lookup_key test es ≡ Some k → test k ≡ true) → test k ≡ true
    by true is rest =
        let there : Some e.0 ≡ Some k = sym (ap (λ b. cond b (Some e.0) (lookup_key test es)) is) ∙ found in
        let same : e.0 ≡ k = cc in
        subst (λ n. test n ≡ true) same is
    by false is rest = rest (sym (ap (λ b. cond b (Some e.0) (lookup_key test es)) is) ∙ found)

other : (a b : ℕ) (c : Bool) → (a ≡ b → ⊥) → ((a == b) && c) ≡ false
other a b c apart = ap (λ t. t && c) (ne_eqb a b apart)

refused : (b c : Bool) → c ≡ false → (b && c) ≡ false
refused true c is = is
refused false c is = refl

unlisted : {X : Type 0} (k : ℕ) (es : List (ℕ × X)) → AllByRecursion (λ y. eqb k y ≡ false) (keys_of es) → lookup (eqb k) es ≡ None
unlisted k [] apart = refl
unlisted k (e ∷ es) apart = ap (λ b. cond b (Some e.1) (lookup (eqb k) es)) apart.0 ∙ unlisted k es apart.1

module _ {X : Type 0} (named : X → ℕ) (accepts : X → Bool) (number : ℕ) where
  pub neither : (xs ys : List X) → list_any (is_sought named accepts number) xs ≡ false → list_any (is_sought named accepts number) ys ≡ false →
      list_any (is_sought named accepts number) (xs ++ ys) ≡ false
  neither xs ys these those = list_any-append _ xs ys ∙ ap (λ t. t || list_any (is_sought named accepts number) ys) these ∙ those

  pub absent : (es : List (ℕ × X)) → All (λ e. named e.1 ≡ e.0) es → lookup (eqb number) es ≡ None →
      list_any (is_sought named accepts number) (values_of es) ≡ false
  absent [] keyed none = refl
  absent (e ∷ es) keyed none = by (eqb number e.0) refl (absent es (All-tail (λ e. named e.1 ≡ e.0) e es keyed))
    where
      by : (b : Bool) → eqb number e.0 ≡ b → (lookup (eqb number) es ≡ None → list_any (is_sought named accepts number) (values_of es) ≡ false) →
          list_any (is_sought named accepts number) (values_of (e ∷ es)) ≡ false
      by true is rest = absurd (true≢false (ap is_some (sym (ap (λ b. cond b (Some e.1) (lookup (eqb number) es)) is) ∙ none)))
      by false is rest =
          ap (λ t. t || list_any (is_sought named accepts number) (values_of es))
          (other (named e.1) number (accepts e.1) (λ same. eqb-false number e.0 is (sym same ∙ All-head (λ e. named e.1 ≡ e.0) e es keyed)))
          ∙ rest (sym (ap (λ b. cond b (Some e.1) (lookup (eqb number) es)) is) ∙ none)

  pub only : (es : List (ℕ × X)) (x : X) → All (λ e. named e.1 ≡ e.0) es → IsDistinct eqb (keys_of es) → lookup (eqb number) es ≡ Some x → accepts x ≡ false →
      list_any (is_sought named accepts number) (values_of es) ≡ false
  unfolding IsDistinct
  only [] x keyed distinct found denied = refl
  only (e ∷ es) x keyed distinct found denied = by (eqb number e.0) refl (λ there. only es x (All-tail (λ e. named e.1 ≡ e.0) e es keyed) distinct.1 there denied)
    where
      by : (b : Bool) → eqb number e.0 ≡ b → (lookup (eqb number) es ≡ Some x → list_any (is_sought named accepts number) (values_of es) ≡ false) →
          list_any (is_sought named accepts number) (values_of (e ∷ es)) ≡ false
      by true is rest =
          let there : Some e.1 ≡ Some x = sym (ap (λ b. cond b (Some e.1) (lookup (eqb number) es)) is) ∙ found in
          let same : e.1 ≡ x = cc in
          let number_is = eqb-true number e.0 is in
          ap (λ t. t || list_any (is_sought named accepts number) (values_of es)) (refused (named e.1 == number) (accepts e.1) (ap accepts same ∙ denied))
          ∙ absent es (All-tail (λ e. named e.1 ≡ e.0) e es keyed) (unlisted number es (subst (λ n. AllByRecursion (λ y. eqb n y ≡ false) (keys_of es)) (sym number_is) distinct.0))
      by false is rest =
          ap (λ t. t || list_any (is_sought named accepts number) (values_of es))
          (other (named e.1) number (accepts e.1) (λ same. eqb-false number e.0 is (sym same ∙ All-head (λ e. named e.1 ≡ e.0) e es keyed)))
          ∙ rest (sym (ap (λ b. cond b (Some e.1) (lookup (eqb number) es)) is) ∙ found)

  pub hit : (es : List (ℕ × X)) (i k : ℕ) (x : X) → All (λ e. named e.1 ≡ e.0) es → slice_get es i ≡ Some (k, x) → lookup_key (eqb number) es ≡ Some k →
      accepts x ≡ true → is_sought named accepts number x ≡ true
  hit es i k x keyed at found taken =
      let is : slice_index_or es i (k, x) ≡ (k, x) = get_or_from_slice_get es i (k, x) (k, x) at in
      let key : named x ≡ k = subst (λ (e : ℕ × X). named e.1 ≡ e.0) is (keyed i (k, x) (slice_get_within es i (k, x) at)) in
      let same = key ∙ sym (eqb-true number k (passes (eqb number) es k found)) in
      ap (λ t. t && accepts x) (eq-eqb (named x) number same) ∙ taken

pub value_at : {X : Type 0} (es : List (ℕ × X)) (i k : ℕ) (x : X) → slice_get es i ≡ Some (k, x) → slice_get (values_of es) i ≡ Some x
value_at es i k x at = slice_get-map (λ e. e.1) es i ∙ ap (option_map (λ e. e.1)) at

pub within : {X : Type 0} (xs : List X) (i : ℕ) → IsSome (slice_get xs i) → i < length xs
within xs i there = by (slice_get xs i) refl
  where
    by : (o : Option _) → slice_get xs i ≡ o → i < length xs
    by None is = absurd (true≢false (sym (subst IsSome is there)))
    by (Some x) is = slice_get_within xs i x is

pub none_too : {T : Type 0} {P Q : Type 0} (o : Option T) → (P → Q) → IfNone o P → IfNone o Q
none_too None follows is = follows is
none_too (Some x) follows is = is

pub none_first : {X : Type 0} (es : List (ℕ × X)) (twins : List X) → values_of es ++ twins ≡ [] → es ≡ []
none_first [] twins is = refl
none_first (e ∷ es) twins is = cc

pub none_twin : {X : Type 0} (first twins : List X) → first ++ twins ≡ [] → twins ≡ []
none_twin [] twins is = is
none_twin (x ∷ first) twins is = cc

pub kept_passes : {X : Type 0} (test : X → Bool) (s : StoreView X) (spot : Spot) (x : X) → kept_at s spot ≡ Some x → test x ≡ true → list_any test (kept_in s) ≡ true
kept_passes test s (First place) x at is =
    list_any-append test s.first s.twins ∙ ap (λ b. b || list_any test s.twins) (any_passes_from_place test s.first place x at is)
kept_passes test s (Twin place) x at is =
    list_any-append test s.first s.twins ∙ ap (λ b. list_any test s.first || b) (any_passes_from_place test s.twins place x at is) ∙ or-true (list_any test s.first)
