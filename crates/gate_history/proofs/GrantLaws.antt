-- What one more grant does to the greatest generations, and which numbers they cover.
-- Used by `grants_are_covered` of `laws.rt`, and by the laws on seals.
use Rattle.std.proofs.Common.{◌≡◌, ◌≢◌, ℕ, ◌+◌, ◌<◌, ◌≤◌, ◌==◌, Bool, true, false, not, nat_le, ◌&&◌, ◌||◌, max, List, [], ◌∷◌, ◌++◌, length, filter, inl, inr, refl, sym, ap, ◌∙◌, true≢false, arith}
use Rattle.std.specs.List.{list_any}
use Rattle.std.proofs.lemmas.Bool.{leb-true, le-leb}
use Rattle.std.proofs.lemmas.Bool.Decides.{eqb_tells, leb_tells}
use Rattle.std.proofs.lemmas.List.Folds.{list_any-append}
use Rattle.permit_book.specs.Numbers.{slot_of, generation_of}
use Rattle.permit_book.specs.Outstanding.{granted_in}
use Rattle.permit_book.proofs.CallerLemmas.{filter-dropped, filter-kept}
use Rattle.authority_cache.specs.Calls.{one_if}
use Rattle.authority_cache.proofs.CallerLemmas.{count-push}
use Rattle.gate_history.specs.declared.base.SlotGrant.{SlotGrant}
use Rattle.gate_history.specs.Grants.{generation_in, greatest_of, is_covered, is_in, with_grant}

greatest-append : (xs ys : List SlotGrant) (slot : ℕ) → greatest_of (xs ++ ys) slot ≡ max (greatest_of xs slot) (greatest_of ys slot)
greatest-append [] ys slot = omega arith
greatest-append (x ∷ xs) ys slot =
    let rest : greatest_of (xs ++ ys) slot ≡ max (greatest_of xs slot) (greatest_of ys slot) = greatest-append xs ys slot in omega arith

greatest-others : (xs : List SlotGrant) (k slot : ℕ) → slot ≢ k → greatest_of (filter (λ g. not (is_in k g)) xs) slot ≡ greatest_of xs slot
greatest-others [] k slot apart = refl
greatest-others (x ∷ xs) k slot apart = elim (eqb_tells x.slot k) [
  | inl e ↦ (let none : (x.slot == slot) ≡ false = elim (eqb_tells x.slot slot) [
    | inl same ↦ absurd (apart (sym same.1 ∙ e.1))
    | inr other ↦ other.0
  ] in rw (e.0, none) (greatest-others xs k slot apart ∙ omega arith))
  | inr d ↦ rw d.0 (ap (max (generation_in slot x)) (greatest-others xs k slot apart))
]

greatest-gone : (xs : List SlotGrant) (k : ℕ) → greatest_of (filter (λ g. not (is_in k g)) xs) k ≡ 0
greatest-gone [] k = refl
greatest-gone (x ∷ xs) k = elim (eqb_tells x.slot k) [
  | inl e ↦ rw e.0 (greatest-gone xs k)
  | inr d ↦ (let none : generation_in k x ≡ 0 = rw d.0 refl in let rest = greatest-gone xs k in rw d.0 (omega arith))
]

pub greatest-granted : (number : ℕ) (xs : List SlotGrant) (slot : ℕ) →
    greatest_of (with_grant number xs) slot ≡ max (granted_in number slot) (greatest_of xs slot)
greatest-granted number xs slot = elim (eqb_tells (slot_of number) slot) [
  | inl e ↦ (let same = e.1 in
      greatest-append (filter (λ g. not (is_in (slot_of number) g)) xs) _ slot
      ∙ rw (e.0, ← same, greatest-gone xs (slot_of number)) (omega arith))
  | inr d ↦ greatest-append (filter (λ g. not (is_in (slot_of number) g)) xs) _ slot
      ∙ rw (d.0, greatest-others xs (slot_of number) slot (λ same. d.1 (sym same))) (omega arith)
]

both-true : (a b : Bool) → (a && b) ≡ true → (a ≡ true) × (b ≡ true)
both-true true b is = (refl, is)
both-true false b is = absurd (true≢false (sym is))

other_slot : (a b c : ℕ) → a ≢ b → (c == a) ≡ true → (c == b) ≡ false
other_slot a b c apart is = elim (eqb_tells c b) [
  | inl e ↦ elim (eqb_tells c a) [ inl f ↦ absurd (apart (sym f.1 ∙ e.1)) | inr d ↦ absurd (true≢false (sym is ∙ d.0)) ]
  | inr d ↦ d.0
]

still_in : (number : ℕ) (xs : List SlotGrant) (slot : ℕ) → list_any (is_in slot) xs ≡ true → list_any (is_in slot) (with_grant number xs) ≡ true
still_in number xs slot found = elim (eqb_tells (slot_of number) slot) [
  | inl e ↦ (list_any-append (is_in slot) left _ ∙ rw e.0 (last (list_any (is_in slot) left)))
  | inr d ↦ (list_any-append (is_in slot) left _ ∙ rw (kept xs d.1 ∙ found) refl)
]
  where
    left : List SlotGrant
    left = filter (λ g. not (is_in (slot_of number) g)) xs

    last : (b : Bool) → (b || (true || false)) ≡ true
    last true = refl
    last false = refl

    kept : (ys : List SlotGrant) → slot_of number ≢ slot → list_any (is_in slot) (filter (λ g. not (is_in (slot_of number) g)) ys) ≡ list_any (is_in slot) ys
    kept [] apart = refl
    kept (y ∷ ys) apart = elim (eqb_tells y.slot (slot_of number)) [
      | inl e ↦ rw (e.0, other_slot (slot_of number) slot y.slot apart e.0) (kept ys apart)
      | inr d ↦ rw d.0 (ap (λ b. is_in slot y || b) (kept ys apart))
    ]

own_in : (number : ℕ) (xs : List SlotGrant) → list_any (is_in (slot_of number)) (with_grant number xs) ≡ true
own_in number xs = elim (eqb_tells (slot_of number) (slot_of number)) [
  | inl e ↦ (list_any-append (is_in (slot_of number)) (filter (λ g. not (is_in (slot_of number) g)) xs) _ ∙ rw e.0 (last _))
  | inr d ↦ absurd (d.1 refl)
]
  where
    last : (b : Bool) → (b || (true || false)) ≡ true
    last true = refl
    last false = refl

pub still-covered : (number : ℕ) (xs : List SlotGrant) (m : ℕ) → is_covered xs m ≡ true → is_covered (with_grant number xs) m ≡ true
still-covered number xs m is =
    let parts = both-true (list_any (is_in (slot_of m)) xs) (nat_le (generation_of m) (greatest_of xs (slot_of m))) is in
    let was : generation_of m ≤ greatest_of xs (slot_of m) = leb-true _ _ parts.1 in
    let now : greatest_of (with_grant number xs) (slot_of m) ≡ max (granted_in number (slot_of m)) (greatest_of xs (slot_of m)) =
    greatest-granted number xs (slot_of m) in
    rw (still_in number xs (slot_of m) parts.0) (le-leb _ _ (omega arith))

pub own-covered : (number : ℕ) (xs : List SlotGrant) → is_covered (with_grant number xs) number ≡ true
own-covered number xs =
    let now : greatest_of (with_grant number xs) (slot_of number) ≡ max (granted_in number (slot_of number)) (greatest_of xs (slot_of number)) =
    greatest-granted number xs (slot_of number) in
    let own : granted_in number (slot_of number) ≡ generation_of number =
    elim (eqb_tells (slot_of number) (slot_of number)) [ inl e ↦ rw e.0 refl | inr d ↦ absurd (d.1 refl) ] in
    rw (own_in number xs) (le-leb _ _ (omega arith))

pub above-not_covered : (xs : List SlotGrant) (number : ℕ) → greatest_of xs (slot_of number) < generation_of number → is_covered xs number ≡ false
above-not_covered xs number above = elim (leb_tells (generation_of number) (greatest_of xs (slot_of number))) [
  | inl e ↦ (let low = e.1 in absurd (omega arith))
  | inr d ↦ rw d.0 (neither (list_any (is_in (slot_of number)) xs))
]
  where
    neither : (b : Bool) → (b && false) ≡ false
    neither true = refl
    neither false = refl

pub slots_once-granted : (number : ℕ) (xs : List SlotGrant) → ((slot : ℕ) → length (filter (is_in slot) xs) ≤ 1) →
    (slot : ℕ) → length (filter (is_in slot) (with_grant number xs)) ≤ 1
slots_once-granted number xs once slot = elim (eqb_tells (slot_of number) slot) [
  | inl e ↦ (let one : one_if (slot_of number == slot) ≡ 1 = ap one_if e.0 in
      let gone : length (filter (is_in slot) left) ≡ 0 =
      ap length (filter-dropped (is_in slot) (λ g. not (is_in (slot_of number) g)) xs (λ g is. rw (ap (λ k. g.slot == k) e.1 ∙ is) refl)) in
      omega (arith, added))
  | inr d ↦ (let none : one_if (slot_of number == slot) ≡ 0 = ap one_if d.0 in
      let same : length (filter (is_in slot) left) ≡ length (filter (is_in slot) xs) =
      ap length (filter-kept (is_in slot) (λ g. not (is_in (slot_of number) g)) xs
      (λ g is. rw (other_slot slot (slot_of number) g.slot (λ eq. d.1 (sym eq)) is) refl)) in
      let was = once slot in omega (arith, added))
]
  where
    left : List SlotGrant
    left = filter (λ g. not (is_in (slot_of number) g)) xs

    added : length (filter (is_in slot) (with_grant number xs)) ≡ length (filter (is_in slot) left) + one_if (slot_of number == slot)
    added = count-push (is_in slot) left (record { slot = slot_of number; generation = max (generation_of number) (greatest_of xs (slot_of number)) })
