-- Whether a literal has no wildcard, octet by octet.
-- Used by `has_no_star`, and for plain patterns.
use Rattle.std.proofs.Common.{◌≡◌, ◌+◌, ◌-◌, ◌<◌, ◌≤◌, ◌==◌, ⊎_elim, drop, ℕ, Bool, true, false, not, List, [], ◌∷◌, length, slice_index, slice_index_or, refl, sym, ap, subst, ◌∙◌, arith}
use Rattle.std.specs.Prelude.{◌↔◌, IsTrue, Option, Some, None, is_some}
use Rattle.std.specs.List.{list_all}
use Rattle.std.proofs.lemmas.Bool.{and_from, and_parts, cases_lt, true≢false}
use Rattle.std.proofs.lemmas.List.{get_or_default, get_or-drop, length-drop}
use Rattle.memchr.specs.Find.{IsFirstByte, Nowhere, Passes, is_byte}
use Rattle.std.proofs.lemmas.List.Elements.{All-cons, All-head, All-tail}
use Rattle.path_normal.specs.Octets.{star}
use Rattle.path_pattern.specs.Literals.{HasNoStar, has_no_star}

true_not : (b : Bool) → not b ≡ true → b ≡ false
true_not true is = absurd (true≢false (sym is))
true_not false is = refl

pub no_star : (literal : List ℕ) → has_no_star literal ≡ true → HasNoStar literal
no_star [] is = λ k d low. absurd (omega (arith, low))
no_star (octet ∷ literal) is =
    let parts = and_parts (not (octet == star)) (list_all (λ octet. not (octet == star)) literal) is in
    All-cons (λ octet. (octet == star) ≡ false) octet literal (true_not (octet == star) parts.0) (no_star literal parts.1)

passes_test : (literal : List ℕ) → HasNoStar literal → has_no_star literal ≡ true
passes_test [] none = refl
passes_test (octet ∷ literal) none =
    and_from (not (octet == star)) (list_all (λ octet. not (octet == star)) literal)
    (ap not (All-head (λ o. (o == star) ≡ false) octet literal none)) (passes_test literal (All-tail (λ o. (o == star) ≡ false) octet literal none))

pub is_test : (b : Bool) (literal : List ℕ) → IsTrue b ↔ HasNoStar literal → b ≡ has_no_star literal
is_test true literal tells = sym (passes_test literal (tells.0 refl))
is_test false literal tells = by (has_no_star literal) refl
  where
    by : (t : Bool) → has_no_star literal ≡ t → false ≡ t
    by true is = tells.1 (no_star literal is)
    by false is = refl

pub found_tells : (literal : List ℕ) (place : Option ℕ) (b : Bool) → IsFirstByte (is_byte star) literal place → is_some place ≡ not b → IsTrue b ↔ HasNoStar literal
found_tells literal None false first is = absurd (true≢false (sym is))
found_tells literal None true first is = (λ _ k d low. by k d low (slice_index literal k == star) refl, λ _. refl)
  where
    by : (k d : ℕ) → k < length literal → (t : Bool) → (slice_index literal k == star) ≡ t → (slice_index_or literal k d == star) ≡ false
    by k d low true is' = absurd (first k (omega arith) low is')
    by k d low false is' = subst (λ (o : ℕ). (o == star) ≡ false) (get_or_default literal k 0 d low) is'
found_tells literal (Some place) true first is = absurd (true≢false is)
found_tells literal (Some place) false first is = (
  λ none. absurd (true≢false (sym none)),
  λ none. absurd (true≢false (sym first.1 ∙ none place 0 first.0.high)),
)

-- ---- the first wildcard, in two parts

module _ (pattern part : List ℕ) (near index : ℕ) (is : part ≡ drop near pattern) (within : near ≤ length pattern) (passed : near ≤ index) (before : Nowhere (Passes (is_byte star) pattern) 0 index) where
  same_octet : (k : ℕ) → near ≤ k → slice_index part (k - near) ≡ slice_index pattern k
  same_octet k past =
      let there : near + (k - near) ≡ k = omega (arith, past) in
      ap (λ them. slice_index them (k - near)) is ∙ get_or-drop near pattern (k - near) 0 ∙ ap (slice_index pattern) there

  long_part : length part ≡ length pattern - near
  long_part = ap length is ∙ length-drop near pattern

  none_until : (end : ℕ) → Nowhere (Passes (is_byte star) part) 0 end → Nowhere (Passes (is_byte star) pattern) 0 (near + end)
  none_until end none k low high passes =
      ⊎_elim
      (λ under. before k low (omega (arith, under, passed)) passes)
      (λ past. none (k - near) (omega arith) (omega (arith, past, high)) (ap (is_byte star) (same_octet k past) ∙ passes))
      (cases_lt k near)

  pub no_later_star : IsFirstByte (is_byte star) part None → IsFirstByte (is_byte star) pattern None
  no_later_star none k low high passes = none_until (length part) none k low (omega (arith, high, long_part, within)) passes

  pub later_star : (place : ℕ) → IsFirstByte (is_byte star) part (Some place) → IsFirstByte (is_byte star) pattern (Some (near + place))
  later_star place found =
      let high = found.0.high in
      let here : near + place - near ≡ place = omega arith in (
        record { low = omega arith; high = omega (arith, high, long_part, within); before = none_until place found.0.before },
        ap (is_byte star) (sym (same_octet (near + place) (omega arith)) ∙ ap (slice_index part) here) ∙ found.1,
      )
