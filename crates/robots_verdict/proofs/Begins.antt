-- Prefixes, and the order of texts.
-- Used by searches for rows by their texts.
use Rattle.std.proofs.Common.{◌≡◌, ℕ, ◌+◌, ◌≤◌, Bool, true, false, List, [], ◌∷◌, length, refl, sym, ap, ◌∙◌, subst, arith, eqb-true}
use Rattle.std.specs.Prelude.{◌==◌, ◌&&◌, nat_le, if◌then◌else◌}
use Rattle.std.specs.declared.cmp.Ordering.{Ordering}
use Rattle.std.specs.Ordering.{is_lt, nat_cmp, ordering_then}
use Rattle.std.specs.Cmp.Lexicographic.{slice_cmp}
use Rattle.std.proofs.lemmas.Bool.{and_parts, true≢false}
use Rattle.std.proofs.lemmas.Bool.Decides.{nat_tests}
use Rattle.std.proofs.lemmas.Cmp.{nat_cmp_total, tied_itself}
use Rattle.robots_verdict.specs.Search.{is_front_of, common}
use Rattle.robots_verdict.proofs.Weighing.{level}

abbrev words : List ℕ → List ℕ → Ordering
words = slice_cmp nat_cmp

pub on_both : (a b : ℕ) (p q : Bool) → a ≡ b → q ≡ true → ((a == b) && q) ≡ true
on_both a b p q same is = grind (arith, nat_tests)

both_true : (a b : ℕ) (q : Bool) → a ≡ b → q ≡ true → ((a == b) && q) ≡ true
both_true a b q same is = grind (arith, nat_tests)

-- a prefix of the last text is a prefix of every text between
pub begins_between : (q p s : List ℕ) → is_front_of q s ≡ true → is_lt (words p q) ≡ false → is_lt (words s p) ≡ false → is_front_of q p ≡ true
begins_between [] p s is low high = refl
begins_between (x ∷ q) p [] is low high = absurd (true≢false (sym is))
begins_between (x ∷ q) [] (y ∷ s) is low high = absurd (true≢false low)
begins_between (x ∷ q) (z ∷ p) (y ∷ s) is low high =
    let parts = and_parts (x == y) (is_front_of q s) is in
    let same : x ≡ y = eqb-true x y parts.0 in
    let below = level z x (words p q) low in
    let above = level y z (words s p) high in
    let one : x ≡ z = omega (arith, same, below.0, above.0) in
    both_true x z (is_front_of q p) one (begins_between q p s parts.1 (below.1 (sym one)) (above.1 (sym same ∙ one)))

pub begins_below : (q s : List ℕ) → is_front_of q s ≡ true → is_lt (words s q) ≡ false
begins_below [] [] is = refl
begins_below [] (y ∷ s) is = refl
begins_below (x ∷ q) [] is = absurd (true≢false (sym is))
begins_below (x ∷ q) (y ∷ s) is =
    let parts = and_parts (x == y) (is_front_of q s) is in
    let same : x ≡ y = eqb-true x y parts.0 in
    subst (λ (n : ℕ). is_lt (ordering_then (nat_cmp n x) (words s q)) ≡ false) same
    (ap (λ (o : Ordering). is_lt (ordering_then o (words s q))) (tied_itself nat_cmp_total x) ∙ begins_below q s parts.1)

pub begins_trans : (q p s : List ℕ) → is_front_of q p ≡ true → is_front_of p s ≡ true → is_front_of q s ≡ true
begins_trans [] p s is also = refl
begins_trans (x ∷ q) [] s is also = absurd (true≢false (sym is))
begins_trans (x ∷ q) (y ∷ p) [] is also = absurd (true≢false (sym also))
begins_trans (x ∷ q) (y ∷ p) (z ∷ s) is also =
    let parts = and_parts (x == y) (is_front_of q p) is in
    let parts' = and_parts (y == z) (is_front_of p s) also in
    both_true x z (is_front_of q s) (eqb-true x y parts.0 ∙ eqb-true y z parts'.0) (begins_trans q p s parts.1 parts'.1)

pub begins_itself : (q : List ℕ) → is_front_of q q ≡ true
begins_itself [] = refl
begins_itself (x ∷ q) = both_true x x (is_front_of q q) refl (begins_itself q)

pub begins_shorter : (q s : List ℕ) → is_front_of q s ≡ true → length q ≤ length s
begins_shorter [] s is = omega arith
begins_shorter (x ∷ q) [] is = absurd (true≢false (sym is))
begins_shorter (x ∷ q) (y ∷ s) is = let later = begins_shorter q s (and_parts (x == y) (is_front_of q s) is).1 in omega arith

pub begins_whole : (q s : List ℕ) → is_front_of q s ≡ true → length q ≡ length s → q ≡ s
begins_whole [] [] is same = refl
begins_whole [] (y ∷ s) is same = absurd (omega (arith, same))
begins_whole (x ∷ q) [] is same = absurd (true≢false (sym is))
begins_whole (x ∷ q) (y ∷ s) is same =
    let parts = and_parts (x == y) (is_front_of q s) is in
    λ i. eqb-true x y parts.0 i ∷ begins_whole q s parts.1 (omega (arith, same)) i

-- a prefix of one text is a prefix of another exactly if it is no longer than their common prefix
pub begins_common : (q p s : List ℕ) → is_front_of q p ≡ true → is_front_of q s ≡ nat_le (length q) (common p s)
begins_common [] p s is = grind (arith, nat_tests)
begins_common (x ∷ q) [] s is = absurd (true≢false (sym is))
begins_common (x ∷ q) (y ∷ p) [] is = grind (arith, nat_tests)
begins_common (x ∷ q) (y ∷ p) (z ∷ s) is =
    let parts = and_parts (x == y) (is_front_of q p) is in
    by (y == z) refl (eqb-true x y parts.0) (begins_common q p s parts.1)
  where
    by : (same : Bool) → (y == z) ≡ same → x ≡ y → is_front_of q s ≡ nat_le (length q) (common p s) →
        ((x == z) && is_front_of q s) ≡ nat_le (length (x ∷ q)) (if y == z then common p s + 1 else 0)
    by true e one later =
        let two : x ≡ z = one ∙ eqb-true y z e in
        rw e (grind (arith, nat_tests))
    by false e one later = rw e (grind (arith, nat_tests))
