-- The lists made from the tables of numbers agree with them on each number and slot.
-- Used by the lists of `listing.rt`.
use Rattle.std.proofs.Common.{◌≡◌, ℕ, ◌+◌, ◌≤◌, ◌==◌, Bool, false, List, [], ◌∷◌, ◌++◌, filter, length, take, inl, inr, refl, sym, ap, subst, ◌∙◌, append_assoc, append-nil}
use Rattle.std.specs.Prelude.{Option, Some, None, slice_get}
use Rattle.std.specs.List.{AllByRecursion, IsDistinct}
use Rattle.std.specs.Map.{keys_of, lookup}
use Rattle.std.proofs.lemmas.Bool.Decides.{eqb_tells}
use Rattle.std.proofs.lemmas.List.{take_all, take_more}
use Rattle.std.proofs.lemmas.List.Elements.{filter-append}
use Rattle.std.proofs.lemmas.Option.{get_or_from_slice_get, slice_get_within}
use Rattle.permit_book.specs.Outstanding.{is_numbered}
use Rattle.permit_book.proofs.CallerLemmas.{same_number}
use Rattle.gate_history.specs.Grants.{is_in}
use Rattle.crawl_audit.specs.declared.numbers.Phase.{Phase}
use Rattle.crawl_audit.specs.declared.numbers.Phase.TheVariants.{Unspent, Running}
use Rattle.crawl_audit.specs.Tables.{grants_under, running_under, unspent_under}

-- what all entries have
abbrev pub all_of : {V X : Type 0} → (ℕ → Option V → List X) → List (ℕ × V) → List X
all_of has [] = []
all_of has (e ∷ es) = has e.0 (Some e.1) ++ all_of has es

-- what is listed of a key is its own; no value, nothing listed
pub record AreOwn {V X : Type 0} (has : ℕ → Option V → List X) (is_of : ℕ → X → Bool) : Type 0 where
  pub own : (n : ℕ) (v : V) → filter (is_of n) (has n (Some v)) ≡ has n (Some v)
  pub others : (n m : ℕ) (v : V) → (m == n) ≡ false → filter (is_of n) (has m (Some v)) ≡ []
  pub none : (n : ℕ) → has n None ≡ []

module _ {V X : Type 0} (has : ℕ → Option V → List X) where
  all_more : (es : List (ℕ × V)) (e : ℕ × V) → all_of has (es ++ e ∷ []) ≡ all_of has es ++ has e.0 (Some e.1)
  all_more [] e = append-nil (has e.0 (Some e.1))
  all_more (f ∷ es) e =
      ap (λ ys. has f.0 (Some f.1) ++ ys) (all_more es e) ∙ sym (append_assoc (has f.0 (Some f.1)) (all_of has es) (has e.0 (Some e.1)))

  pub listed_more : (es : List (ℕ × V)) (i : ℕ) (e : ℕ × V) (old new : List X) → Some e ≡ slice_get es i → old ≡ all_of has (take i es) → new ≡ old ++ has e.0 (Some e.1) →
      new ≡ all_of has (take (i + 1) es)
  listed_more es i e old new at so_far more =
      more ∙ ap (λ xs. xs ++ has e.0 (Some e.1)) so_far ∙ sym (all_more (take i es) e)
      ∙ sym (ap (all_of has) (take_more es i e (slice_get_within es i e (sym at)) ∙ ap (λ (x : ℕ × V). take i es ++ x ∷ []) (get_or_from_slice_get es i e e (sym at))))

  absent : (n : ℕ) (es : List (ℕ × V)) → AllByRecursion (λ other. (n == other) ≡ false) (keys_of es) → lookup (λ other. n == other) es ≡ None
  absent n [] apart = refl
  absent n (e ∷ es) apart = rw apart.0 (absent n es apart.1)

  of_key : (is_of : ℕ → X → Bool) → AreOwn has is_of → (n : ℕ) (es : List (ℕ × V)) → IsDistinct (λ (one other : ℕ). one == other) (keys_of es) →
      filter (is_of n) (all_of has es) ≡ has n (lookup (λ other. n == other) es)
  unfolding IsDistinct
  of_key is_of are n [] apart = sym (are.none n)
  of_key is_of are n (e ∷ es) apart = elim (eqb_tells n e.0) [
    | inl same ↦ (let here : filter (is_of n) (has e.0 (Some e.1)) ≡ has n (Some e.1) = ap (λ m. filter (is_of n) (has m (Some e.1))) (sym same.1) ∙ are.own n e.1 in
        let gone : lookup (λ other. n == other) es ≡ None = subst (λ m. lookup (λ other. m == other) es ≡ None) (sym same.1) (absent e.0 es apart.0) in
        let left : filter (is_of n) (all_of has es) ≡ [] = of_key is_of are n es apart.1 ∙ (ap (has n) gone ∙ are.none n) in
        rw same.0 (both ∙ (ap (λ ys. ys ++ filter (is_of n) (all_of has es)) here ∙ (ap (λ ys. has n (Some e.1) ++ ys) left ∙ append-nil (has n (Some e.1))))))
    | inr other ↦ rw other.0 (both ∙ (ap (λ ys. ys ++ filter (is_of n) (all_of has es)) (are.others n e.0 e.1 (turned other.1)) ∙ of_key is_of are n es apart.1))
  ]
    where
      both : filter (is_of n) (has e.0 (Some e.1) ++ all_of has es) ≡ filter (is_of n) (has e.0 (Some e.1)) ++ filter (is_of n) (all_of has es)
      both = filter-append (is_of n) (has e.0 (Some e.1)) (all_of has es)

      turned : (n ≡ e.0 → ⊥) → (e.0 == n) ≡ false
      turned apart = elim (eqb_tells e.0 n) [ inl same ↦ absurd (apart (sym same.1)) | inr other ↦ other.0 ]

  pub listed : (is_of : ℕ → X → Bool) → AreOwn has is_of → (es : List (ℕ × V)) → IsDistinct (λ (one other : ℕ). one == other) (keys_of es) → (i : ℕ) (found : List X) → length es ≤ i →
      found ≡ all_of has (take i es) → (n : ℕ) → filter (is_of n) found ≡ has n (lookup (λ other. n == other) es)
  listed is_of are es apart i found whole is n = ap (filter (is_of n)) (is ∙ ap (all_of has) (take_all i es whole)) ∙ of_key is_of are n es apart

pub unspent_own : AreOwn unspent_under is_numbered
unspent_own = record { own = own; others = others; none = λ n. refl }
  where
    own : (n : ℕ) (phase : Phase) → filter (is_numbered n) (unspent_under n (Some phase)) ≡ unspent_under n (Some phase)
    own n (Unspent fetch) = rw (same_number n) refl
    own n (Running fetch) = refl

    others : (n m : ℕ) (phase : Phase) → (m == n) ≡ false → filter (is_numbered n) (unspent_under m (Some phase)) ≡ []
    others n m (Unspent fetch) apart = rw apart refl
    others n m (Running fetch) apart = refl

pub running_own : AreOwn running_under is_numbered
running_own = record { own = own; others = others; none = λ n. refl }
  where
    own : (n : ℕ) (phase : Phase) → filter (is_numbered n) (running_under n (Some phase)) ≡ running_under n (Some phase)
    own n (Unspent fetch) = refl
    own n (Running fetch) = rw (same_number n) refl

    others : (n m : ℕ) (phase : Phase) → (m == n) ≡ false → filter (is_numbered n) (running_under m (Some phase)) ≡ []
    others n m (Unspent fetch) apart = refl
    others n m (Running fetch) apart = rw apart refl

pub grants_own : AreOwn grants_under is_in
grants_own = record {
  own = λ slot last. rw (same_number slot) refl;
  others = λ slot other last apart. rw apart refl;
  none = λ slot. refl;
}
