-- Sorted keys have sorted places.
-- Used by `in_order`.
use Rattle.std.proofs.Common.{◌≡◌, ◌≢◌, ◌⊎◌, inl, inr, ⊎_elim, ℕ, zero, suc, ◌+◌, ◌*◌, ◌<◌, ◌≤◌, min, All, List, [], ◌∷◌, length, map, get_or, refl, sym, ap, ◌∙◌, arith}
use Rattle.std.specs.declared.cmp.Ordering.{Ordering}
use Rattle.std.specs.declared.cmp.Ordering.TheVariants.{Less, Equal, Greater}
use Rattle.std.specs.Ordering.{is_gt, is_lt, nat_cmp, ordering_then}
use Rattle.std.specs.Cmp.{IsTotalOrder}
use Rattle.std.specs.Prelude.{false, nat_lt, not, if◌then◌else◌}
use Rattle.std.proofs.lemmas.Bool.{cases_lt, cases_order, le-ltb, lt-ltb, true≢false}
use Rattle.std.specs.Cmp.Lexicographic.{slice_cmp}
use Rattle.std.proofs.lemmas.Cmp.{nat_cmp_total, nat_list_cmp_total, on_total, then_total}
use Rattle.std.proofs.lemmas.List.{get_or-map, length-map}
use Rattle.std.proofs.lemmas.List.Elements.{All-get_or}
use Rattle.robots_verdict.specs.declared.keys.Key.{Key}
use Rattle.robots_verdict.specs.Keys.{AreApart, compare_alike, compare_keys, if_long, IsKeyOf, number}
use Rattle.robots_verdict.specs.Placed.{Placed}
use Rattle.robots_verdict.specs.Rows.{row_at}
use Rattle.robots_verdict.specs.Search.{compare_plain, IsPlainOrder, key}
use Rattle.path_pattern.specs.Texts.{AreOctets, spelled_number}
use Rattle.path_pattern.proofs.CallerLemmas.{by_front, is_equal, is_greater, is_less, later, spell_less}

pub keys_total : (rows : List Placed) → IsTotalOrder (compare_keys rows)
keys_total rows =
    then_total (on_total (λ (k : Key). k.group) nat_cmp_total)
    (then_total (on_total number nat_cmp_total)
    (then_total (on_total (λ (k : Key). k.cut) nat_cmp_total) (on_total (if_long rows) nat_list_cmp_total)))

one_more : (one other : ℕ) → nat_cmp one other ≡ nat_cmp (suc one) (suc other)
one_more one other = elim (cases_order one other) [
  | inl equal ↦ is_equal one other equal ∙ sym (is_equal (suc one) (suc other) (ap suc equal))
  | inr (inl less) ↦ is_less one other less ∙ sym (is_less (suc one) (suc other) (omega (arith, less)))
  | inr (inr more) ↦ is_greater one other more ∙ sym (is_greater (suc one) (suc other) (omega (arith, more)))
]

-- texts that begin alike compare by their lengths if one of them ends there
by_length : (n a : ℕ) (p q : List ℕ) → AreOctets p → AreOctets q → spelled_number n a p ≡ spelled_number n a q → (length p ≤ n) ⊎ (length q ≤ n) →
    slice_cmp nat_cmp p q ≡ nat_cmp (length p) (length q)
by_length n a [] [] are also same short = sym (is_equal 0 0 refl)
by_length n a [] (y ∷ q) are also same short = sym (is_less 0 (length (y ∷ q)) (omega arith))
by_length n a (x ∷ p) [] are also same short = sym (is_greater (length (x ∷ p)) 0 (omega arith))
by_length zero a (x ∷ p) (y ∷ q) are also same short = ⊎_elim (λ one. absurd (omega (arith, one))) (λ other. absurd (omega (arith, other))) short
by_length (suc n) a (x ∷ p) (y ∷ q) are also same short = elim (cases_order x y) [
  | inl equal ↦ ap (λ (o : Ordering). ordering_then o (slice_cmp nat_cmp p q)) (is_equal x y equal)
      ∙ by_length n (a * 256 + x) p q (later x p are) (later y q also) (same ∙ ap (λ z. spelled_number n (a * 256 + z) q) (sym equal))
      (⊎_elim (λ one. inl (omega (arith, one))) (λ other. inr (omega (arith, other))) short)
      ∙ one_more (length p) (length q)
  | inr (inl less) ↦ absurd (omega (arith, same, spell_less n (a * 256 + x) (a * 256 + y) p q (omega (arith, less)) (later x p are) (later y q also)))
  | inr (inr more) ↦ absurd (omega (arith, same, spell_less n (a * 256 + y) (a * 256 + x) q p (omega (arith, more)) (later y q also) (later x p are)))
]

same_cut : (one other : ℕ) → (one ≤ 16) ⊎ (other ≤ 16) → nat_cmp one other ≡ nat_cmp (min 17 one) (min 17 other)
same_cut one other short = elim (cases_order one other) [
  | inl equal ↦ is_equal one other equal ∙ sym (is_equal (min 17 one) (min 17 other) (ap (min 17) equal))
  | inr (inl less) ↦ is_less one other less ∙ sym (is_less (min 17 one) (min 17 other) (⊎_elim (λ low. omega (arith, low, less)) (λ low. omega (arith, low, less)) short))
  | inr (inr more) ↦ is_greater one other more ∙ sym (is_greater (min 17 one) (min 17 other) (⊎_elim (λ low. omega (arith, low, more)) (λ low. omega (arith, low, more)) short))
]

-- a text if it is longer than its key holds
abbrev long : List ℕ → List ℕ
long text = if nat_lt 16 (min 17 (length text)) then text else []

is_short : (text : List ℕ) → length text ≤ 16 → long text ≡ []
is_short text few = ap (λ b. if b then text else []) (le-ltb 16 (min 17 (length text)) (omega (arith, few)))

is_long : (text : List ℕ) → 16 < length text → long text ≡ text
is_long text many = ap (λ b. if b then text else []) (lt-ltb 16 (min 17 (length text)) (omega (arith, many)))

by_cut : (p q : List ℕ) → AreOctets p → AreOctets q → spelled_number 16 0 p ≡ spelled_number 16 0 q →
    slice_cmp nat_cmp p q ≡ ordering_then (nat_cmp (min 17 (length p)) (min 17 (length q))) (slice_cmp nat_cmp (long p) (long q))
by_cut p q are also same = elim (cases_order (min 17 (length p)) (min 17 (length q))) [
  | inl equal ↦ ⊎_elim
      (λ short.
      let other : length q ≤ 16 = omega (arith, short, equal) in
      by_length 16 0 p q are also same (inl (omega (arith, short))) ∙ same_cut (length p) (length q) (inl (omega (arith, short)))
      ∙ is_equal (min 17 (length p)) (min 17 (length q)) equal
      ∙ sym (λ i. ordering_then (is_equal (min 17 (length p)) (min 17 (length q)) equal i) (slice_cmp nat_cmp (is_short p (omega (arith, short)) i) (is_short q other i))))
      (λ many.
      let other : 16 < length q = omega (arith, many, equal) in
      sym (λ i. ordering_then (is_equal (min 17 (length p)) (min 17 (length q)) equal i) (slice_cmp nat_cmp (is_long p (omega (arith, many)) i) (is_long q other i))))
      (cases_lt (length p) 17)
  | inr (inl less) ↦ by_length 16 0 p q are also same (inl (omega (arith, less))) ∙ same_cut (length p) (length q) (inl (omega (arith, less)))
      ∙ is_less (min 17 (length p)) (min 17 (length q)) less
      ∙ sym (ap (λ (o : Ordering). ordering_then o (slice_cmp nat_cmp (long p) (long q))) (is_less (min 17 (length p)) (min 17 (length q)) less))
  | inr (inr more) ↦ by_length 16 0 p q are also same (inr (omega (arith, more))) ∙ same_cut (length p) (length q) (inr (omega (arith, more)))
      ∙ is_greater (min 17 (length p)) (min 17 (length q)) more
      ∙ sym (ap (λ (o : Ordering). ordering_then o (slice_cmp nat_cmp (long p) (long q))) (is_greater (min 17 (length p)) (min 17 (length q)) more))
]

by_number : (p q : List ℕ) → AreOctets p → AreOctets q →
    slice_cmp nat_cmp p q ≡ ordering_then (nat_cmp (spelled_number 16 0 p) (spelled_number 16 0 q)) (ordering_then (nat_cmp (min 17 (length p)) (min 17 (length q))) (slice_cmp nat_cmp (long p) (long q)))
by_number p q are also =
    let one = spelled_number 16 0 p in
    let other = spelled_number 16 0 q in
    let texts = slice_cmp nat_cmp p q in
    let rest = ordering_then (nat_cmp (min 17 (length p)) (min 17 (length q))) (slice_cmp nat_cmp (long p) (long q)) in
    by_front 16 0 p q are also ∙ elim (cases_order one other) [
      | inl same ↦ (λ i. ordering_then (nat_cmp one other) (by_cut p q are also same i))
      | inr (inl less) ↦ ap (λ (o : Ordering). ordering_then o texts) (is_less one other less) ∙ sym (ap (λ (o : Ordering). ordering_then o rest) (is_less one other less))
      | inr (inr more) ↦ ap (λ (o : Ordering). ordering_then o texts) (is_greater one other more) ∙ sym (ap (λ (o : Ordering). ordering_then o rest) (is_greater one other more))
    ]

-- the pattern of a key, if it is long
kept_long : (rows : List Placed) (key : Key) → IsKeyOf rows key → if_long rows key ≡ long (row_at rows key.place).form
kept_long rows key is = ap (λ cut. if nat_lt 16 cut then (row_at rows key.place).form else []) is.cut

pub same_order : (rows : List Placed) (one other : Key) → IsKeyOf rows one → IsKeyOf rows other → compare_keys rows one other ≡ slice_cmp nat_cmp (key rows one.place) (key rows other.place)
same_order rows one other is also =
    let p = (row_at rows one.place).form in
    let q = (row_at rows other.place).form in
    let texts : ordering_then (nat_cmp (number one) (number other)) (ordering_then (nat_cmp one.cut other.cut) (slice_cmp nat_cmp (if_long rows one) (if_long rows other))) ≡ slice_cmp nat_cmp p q =
    (λ i. ordering_then (nat_cmp (is.spelled i) (also.spelled i)) (ordering_then (nat_cmp (is.cut i) (also.cut i)) (slice_cmp nat_cmp (kept_long rows one is i) (kept_long rows other also i))))
    ∙ sym (by_number p q is.octets also.octets) in
    λ i. ordering_then (nat_cmp (is.group i) (also.group i)) (texts i)

behind_rises : (texts places : Ordering) → not (is_gt texts) ≡ false → is_lt (ordering_then texts places) ≡ false
behind_rises Less places is = absurd (true≢false is)
behind_rises Equal places is = absurd (true≢false is)
behind_rises Greater places is = refl

pub places_rise : (rows : List Placed) (keys : List Key) → All (IsKeyOf rows) keys → AreApart rows keys → IsPlainOrder rows (map (λ (k : Key). k.place) keys)
places_rise rows [] known apart k d low within = absurd (omega arith)
places_rise rows (first ∷ keys) known apart k d low within =
    let place : Key → ℕ = λ (k : Key). k.place in
    let all = first ∷ keys in
    let few = length-map all place in
    let here : k < length all = omega (arith, within, few) in
    let next : k + 1 < length all = omega (arith, within, few) in
    let this = get_or all k first in
    let behind = get_or all (k + 1) first in
    let order = same_order rows behind this (All-get_or (IsKeyOf rows) all (k + 1) first next known) (All-get_or (IsKeyOf rows) all k first here known) in
    (λ i. is_lt (compare_plain rows (get_or-map place all (k + 1) first d next i) (get_or-map place all k first d here i)))
    ∙ behind_rises (slice_cmp nat_cmp (key rows behind.place) (key rows this.place)) (nat_cmp this.place behind.place)
    (ap (λ (o : Ordering). not (is_gt o)) (sym order) ∙ apart k first low next)

module _ (rows : List Placed) (one other : Key) where
  -- the order of the patterns that the keys do not hold
  abbrev behind_cuts : Ordering
  behind_cuts = slice_cmp nat_cmp (if_long rows one) (if_long rows other)

  pub unequal_cuts : one.cut ≢ other.cut → nat_cmp one.cut other.cut ≡ compare_alike rows one other
  unequal_cuts differ = elim (cases_order one.cut other.cut) [
    | inl equal ↦ absurd (differ equal)
    | inr (inl less) ↦ is_less one.cut other.cut less ∙ sym (ap (λ (o : Ordering). ordering_then o behind_cuts) (is_less one.cut other.cut less))
    | inr (inr more) ↦ is_greater one.cut other.cut more ∙ sym (ap (λ (o : Ordering). ordering_then o behind_cuts) (is_greater one.cut other.cut more))
  ]

  module _ (same : one.cut ≡ other.cut) where
    pub equal_long : 16 < one.cut → slice_cmp nat_cmp (row_at rows one.place).form (row_at rows other.place).form ≡ compare_alike rows one other
    equal_long many =
        let left : if_long rows one ≡ (row_at rows one.place).form = ap (λ b. if b then (row_at rows one.place).form else []) (lt-ltb 16 one.cut many) in
        let right : if_long rows other ≡ (row_at rows other.place).form = ap (λ b. if b then (row_at rows other.place).form else []) (lt-ltb 16 other.cut (omega (arith, many, same))) in
        sym (λ i. ordering_then (is_equal one.cut other.cut same i) (slice_cmp nat_cmp (left i) (right i)))

    pub equal_short : one.cut ≤ 16 → Equal ≡ compare_alike rows one other
    equal_short few =
        let left : if_long rows one ≡ [] = ap (λ b. if b then (row_at rows one.place).form else []) (le-ltb 16 one.cut few) in
        let right : if_long rows other ≡ [] = ap (λ b. if b then (row_at rows other.place).form else []) (le-ltb 16 other.cut (omega (arith, few, same))) in
        sym (λ i. ordering_then (is_equal one.cut other.cut same i) (slice_cmp nat_cmp (left i) (right i)))
