-- Sorted names, and the range of one name.
-- Used by `Heads::groups_for`.
use Rattle.std.proofs.Common.{◌≡◌, ℕ, ◌+◌, ◌-◌, ◌<◌, ◌≤◌, Bool, true, false, not, inl, inr, List, [], ◌∷◌, length, map, take, drop, get_or, Contains, refl, sym, ap, ◌∙◌, subst, arith}
use Rattle.std.specs.Prelude.{◌↔◌, bytes_eq, MatchBool}
use Rattle.std.specs.List.{AllWithin}
use Rattle.std.specs.List.Sorted.{IsNonDecreasing, IsPartitionedBy, IsPartitionPoint, IsSortedBy}
use Rattle.std.specs.declared.cmp.Ordering.{Ordering}
use Rattle.std.specs.declared.cmp.Ordering.TheVariants.{Less, Equal, Greater}
use Rattle.std.specs.Ordering.{is_eq, is_gt, is_lt, nat_cmp, ordering_reverse, ordering_then}
use Rattle.std.specs.Cmp.{IsTotalOrder}
use Rattle.std.specs.Cmp.Lexicographic.{slice_cmp}
use Rattle.std.proofs.lemmas.Bool.{cases_lt, true≢false}
use Rattle.std.proofs.lemmas.Cmp.{nat_cmp_total, nat_list_cmp_total, on_total, then_total, tied_itself}
use Rattle.std.proofs.lemmas.List.{get_or-drop, get_or-map, get_or-take, get_or_default, length-drop, length-map, length-take}
use Rattle.std.proofs.lemmas.List.Sorted.{IsNonDecreasingBy-from_default, ranks_by, sorted_far}
use Rattle.std.proofs.lemmas.Map.Text.{is_eq-slice_cmp}
use Rattle.std.proofs.lemmas.Slice.Eq.{bytes_eq-Decides}
use Rattle.robots_text.proofs.CallerLemmas.{any_passes, passes_any}
use Rattle.robots_verdict.specs.Heads.{compare_names, has_name, is_name_before}
use Rattle.robots_verdict.specs.Placed.{NamedGroup}
use Rattle.robots_verdict.proofs.Weighing.{last_level}

pub names_total : IsTotalOrder compare_names
names_total = then_total (on_total (λ (n : NamedGroup). n.name) nat_list_cmp_total) (on_total (λ (n : NamedGroup). n.group) nat_cmp_total)

-- the order of texts
abbrev words : List ℕ → List ℕ → Ordering
words = slice_cmp nat_cmp

reversed : (o o' : Ordering) → o ≡ ordering_reverse o' → is_lt o ≡ is_gt o'
reversed o Less is = ap is_lt is
reversed o Equal is = ap is_lt is
reversed o Greater is = ap is_lt is

pub turned : (a b : List ℕ) → is_lt (words a b) ≡ is_gt (words b a)
turned a b = reversed (words a b) (words b a) (nat_list_cmp_total.antisymm a b)

pub equal_of : (o : Ordering) → is_lt o ≡ false → is_gt o ≡ false → o ≡ Equal
equal_of Less low high = absurd (true≢false low)
equal_of Equal low high = refl
equal_of Greater low high = absurd (true≢false high)

pub less_of : (o : Ordering) → is_lt o ≡ true → o ≡ Less
less_of Less is = refl
less_of Equal is = absurd (true≢false (sym is))
less_of Greater is = absurd (true≢false (sym is))

pub below_less : (o : Ordering) (a b c : List ℕ) → words a b ≡ o → is_lt (words b a) ≡ false → words b c ≡ Less → is_lt (words a c) ≡ true
below_less Less a b c is low less = ap is_lt (nat_list_cmp_total.trans a b c is less)
below_less Equal a b c is low less = ap is_lt (nat_list_cmp_total.congr a b c is ∙ less)
below_less Greater a b c is low less = absurd (true≢false (sym (turned b a ∙ ap is_gt is) ∙ low))

pub below_not : (o : Ordering) (a b c : List ℕ) → words a c ≡ o → is_lt (words b a) ≡ false → is_gt (words b c) ≡ false → is_gt (words a c) ≡ false
below_not Less a b c is low not_gt = ap is_gt is
below_not Equal a b c is low not_gt = ap is_gt is
below_not Greater a b c is low not_gt =
    let less : words c a ≡ Less = less_of (words c a) (turned c a ∙ ap is_gt is) in
    by (words b c) refl
  where
    by : (o : Ordering) → words b c ≡ o → is_gt (words a c) ≡ false
    by Less one = absurd (true≢false (sym (ap is_lt (nat_list_cmp_total.trans b c a one (less_of (words c a) (turned c a ∙ ap is_gt is)))) ∙ low))
    by Equal one = absurd (true≢false (sym (ap is_lt (nat_list_cmp_total.congr b c a one ∙ less_of (words c a) (turned c a ∙ ap is_gt is))) ∙ low))
    by Greater one = absurd (true≢false (sym (ap is_gt one) ∙ not_gt))

later_text : (o o' : Ordering) → is_lt (ordering_then o o') ≡ false → is_lt o ≡ false
later_text Less o' is = is
later_text Equal o' is = refl
later_text Greater o' is = refl

pub within_map : {X Y : Type 0} (f : X → Y) (Q : Y → Type 0) (xs : List X) (low high : ℕ) → high ≤ length xs → AllWithin (λ x. Q (f x)) xs low high → AllWithin Q (map f xs) low high
within_map f Q [] low high fits all k e from to = absurd (omega arith)
within_map f Q (x ∷ xs) low high fits all k e from to = subst Q (sym (get_or-map f (x ∷ xs) k x e (omega arith))) (all k x from to)

no_name : NamedGroup
no_name = record { name = []; group = 0 }

pub rises : (named : List NamedGroup) → IsSortedBy is_name_before named → (i j : ℕ) (d : NamedGroup) → i ≤ j → j < length named →
    is_lt (words (get_or named j d).name (get_or named i d).name) ≡ false
rises named sorted i j d order within =
    later_text (words (get_or named j d).name (get_or named i d).name) _ (sorted_far is_name_before (ranks_by names_total (λ (n : NamedGroup). n)) named sorted i j d order within)

pub before_falls : (named : List NamedGroup) (token : List ℕ) → IsSortedBy is_name_before named → IsPartitionedBy (λ n. is_lt (words n.name token)) named
before_falls named token sorted i j d order within is =
    below_less (words (get_or named i d).name (get_or named j d).name) (get_or named i d).name (get_or named j d).name token refl (rises named sorted i j d order within) (less_of (words (get_or named j d).name token) is)

pub not_true : (b : Bool) → b ≡ false → not b ≡ true
not_true b is = ap not is

pub true_not : (b : Bool) → not b ≡ true → b ≡ false
true_not true is = absurd (true≢false (sym is))
true_not false is = refl

pub behind_falls : (named : List NamedGroup) (token : List ℕ) → IsSortedBy is_name_before named → IsPartitionedBy (λ n. not (is_gt (words n.name token))) named
behind_falls named token sorted i j d order within is =
    not_true _ (below_not (words (get_or named i d).name token) (get_or named i d).name (get_or named j d).name token refl (rises named sorted i j d order within)
    (true_not (is_gt (words (get_or named j d).name token)) is))

-- these places, and no others, have the name
pub record IsRun (named : List NamedGroup) (token : List ℕ) (low high : ℕ) : Type 0 where
  pub fits : high ≤ length named
  pub inside : (k : ℕ) (d : NamedGroup) → low ≤ k → k < high → (get_or named k d).name ≡ token
  pub outside : (k : ℕ) (d : NamedGroup) → k < length named → (get_or named k d).name ≡ token → (low ≤ k) × (k < high)

pub same_words : (a b : List ℕ) → words a b ≡ Equal → a ≡ b
same_words a b is = (bytes_eq-Decides a b).0 (sym (is_eq-slice_cmp a b) ∙ ap is_eq is)

words_same : (a b : List ℕ) → a ≡ b → words a b ≡ Equal
words_same a b is = subst (λ (c : List ℕ). words a c ≡ Equal) is (tied_itself nat_list_cmp_total a)

pub run_of : (named : List NamedGroup) (token : List ℕ) (low high : ℕ) → low ≤ length named → high ≤ length named →
    IsPartitionPoint (λ n. is_lt (words n.name token) ≡ true) (λ n. is_lt (words n.name token) ≡ false) named low →
    IsPartitionPoint (λ n. not (is_gt (words n.name token)) ≡ true) (λ n. not (is_gt (words n.name token)) ≡ false) named high → IsRun named token low high
run_of named token low high low_fits fits lows highs = record {
  fits = fits;
  inside = λ k d from to. same_words (get_or named k d).name token
      (equal_of (words (get_or named k d).name token) (lows.1 k d from (omega arith)) (true_not (is_gt (words (get_or named k d).name token)) (highs.0 k d (omega arith) to)));
  outside = λ k d within is. (from k d within is, to k d within is);
}
  where
    from : (k : ℕ) (d : NamedGroup) → k < length named → (get_or named k d).name ≡ token → low ≤ k
    from k d within is = elim (cases_lt k low) [
      | inr order ↦ order
      | inl less ↦ absurd (true≢false (sym (lows.0 k d (omega arith) less) ∙ ap is_lt (words_same (get_or named k d).name token is)))
    ]

    to : (k : ℕ) (d : NamedGroup) → k < length named → (get_or named k d).name ≡ token → k < high
    to k d within is = elim (cases_lt k high) [
      | inr order ↦ absurd (true≢false (sym (ap (λ (o : Ordering). not (is_gt o)) (words_same (get_or named k d).name token is)) ∙ highs.1 k d order within))
      | inl less ↦ less
    ]

group_of : NamedGroup → ℕ
group_of n = n.group

pub run_groups : (named : List NamedGroup) (groups token : List ℕ) (low high : ℕ) → groups ≡ map (λ (n : NamedGroup). n.group) named → IsRun named token low high → (group : ℕ) →
    Contains (take (high - low) (drop low groups)) group ↔ Contains named (record { name = token; group = group })
run_groups named groups token low high are run group = (
  λ stands.
      let few = length-take (high - low) (drop low groups) in
      let fewer = length-drop low groups in
      let many = ap length are ∙ length-map named (λ (n : NamedGroup). n.group) in
      let k = stands.0 in
      let less : k < high - low = omega (arith, stands.1, few) in
      let within : low + k < length named = omega (arith, stands.1, few, fewer, many) in
      let to : low + k < high = omega arith in
      let past : NamedGroup = record { name = token; group = group } in
      let read : get_or groups (low + k) group ≡ group = sym (get_or-drop low groups k group) ∙ sym (get_or-take (high - low) (drop low groups) k group less) ∙ stands.2 in
      let is_group : (get_or named (low + k) past).group ≡ group =
      sym (get_or-map (λ (n : NamedGroup). n.group) named (low + k) past group within) ∙ sym (ap (λ (gs : List ℕ). get_or gs (low + k) group) are) ∙ read in
      let is_name = run.inside (low + k) past (omega arith) to in
      (low + k, within, λ i. record { name = is_name i; group = is_group i }),
  λ stands.
      let k = stands.0 in
      let past : NamedGroup = record { name = token; group = group } in
      let bounds = run.outside k past stands.1 (ap (λ (n : NamedGroup). n.name) stands.2) in
      let few = length-take (high - low) (drop low groups) in
      let fewer = length-drop low groups in
      let many = ap length are ∙ length-map named (λ (n : NamedGroup). n.group) in
      let fits = run.fits in
      let less : k - low < high - low = omega (arith, bounds.0, bounds.1) in
      let place : low + (k - low) ≡ k = omega (arith, bounds.0) in
      let read : get_or groups k group ≡ group =
      ap (λ (gs : List ℕ). get_or gs k group) are ∙ get_or-map (λ (n : NamedGroup). n.group) named k past group stands.1 ∙ ap (λ (n : NamedGroup). n.group) stands.2 in (
        k - low,
        omega (arith, few, fewer, many, fits, less, bounds.0, bounds.1),
        get_or-take (high - low) (drop low groups) (k - low) group less ∙ get_or-drop low groups (k - low) group ∙ ap (λ n. get_or groups n group) place ∙ read,
      ),
)

pub run_rises : (named : List NamedGroup) (groups token : List ℕ) (low high : ℕ) → groups ≡ map (λ (n : NamedGroup). n.group) named → IsSortedBy is_name_before named → IsRun named token low high →
    IsNonDecreasing (take (high - low) (drop low groups))
run_rises named groups token low high are sorted run = IsNonDecreasingBy-from_default (λ (n : ℕ). n) (take (high - low) (drop low groups)) 0 rise
  where
    read : (k : ℕ) → k < high - low → get_or (take (high - low) (drop low groups)) k 0 ≡ (get_or named (low + k) no_name).group
    read k less =
        let fits = run.fits in
        get_or-take (high - low) (drop low groups) k 0 less ∙ get_or-drop low groups k 0
        ∙ ap (λ (gs : List ℕ). get_or gs (low + k) 0) are ∙ get_or-map (λ (n : NamedGroup). n.group) named (low + k) no_name 0 (omega (arith, fits, less))

    same : (k : ℕ) → k < high - low → (get_or named (low + k) no_name).name ≡ token
    same k less = run.inside (low + k) no_name (omega arith) (omega (arith, less))

    no_later : (i j : ℕ) → i ≤ j → j < high - low → (get_or named (low + i) no_name).group ≤ (get_or named (low + j) no_name).group
    no_later i j order less =
        let fits = run.fits in
        let one = get_or named (low + i) no_name in
        let other = get_or named (low + j) no_name in
        let ranks = sorted_far is_name_before (ranks_by names_total (λ (n : NamedGroup). n)) named sorted (low + i) (low + j) no_name (omega (arith, order)) (omega (arith, fits, less)) in
        let equal = words_same other.name one.name (same j less ∙ sym (same i (omega (arith, order, less)))) in
        last_level other.group one.group (ap (λ (o : Ordering). is_lt (ordering_then o (nat_cmp other.group one.group))) (sym equal) ∙ ranks)

    rise : (i j : ℕ) → i ≤ j → j < length (take (high - low) (drop low groups)) → get_or (take (high - low) (drop low groups)) i 0 ≤ get_or (take (high - low) (drop low groups)) j 0
    rise i j order within =
        let few = length-take (high - low) (drop low groups) in
        let less : j < high - low = omega (arith, within, few) in
        omega (arith, read i (omega (arith, order, less)), read j less, no_later i j order less)

pub has_run : (named : List NamedGroup) (token : List ℕ) (low high : ℕ) → IsRun named token low high → low < high → has_name named token ≡ true
has_run named token low high run order =
    let fits = run.fits in
    passes_any (λ n. bytes_eq n.name token) named (get_or named low no_name) (low, omega arith, get_or_default named low (get_or named low no_name) no_name (omega arith))
    ((bytes_eq-Decides (get_or named low no_name).name token).1 (run.inside low no_name (omega arith) order))

pub no_run : (is : Bool) (named : List NamedGroup) (token : List ℕ) (low high : ℕ) → has_name named token ≡ is → IsRun named token low high → high ≤ low → is ≡ false
no_run false named token low high has run order = refl
no_run true named token low high has run order =
    let found = any_passes (λ n. bytes_eq n.name token) named has in
    let bounds = run.outside found.stands.0 found.one found.stands.1 (ap (λ (n : NamedGroup). n.name) found.stands.2 ∙ (bytes_eq-Decides found.one.name token).0 found.passes) in
    absurd (omega (arith, bounds.0, bounds.1))

pub choose : (is : Bool) (P Q R : Type 0) → (is ≡ true → P ↔ Q) → (is ≡ false → P ↔ R) → P ↔ MatchBool is Q R
choose true P Q R yes' no' = yes' refl
choose false P Q R yes' no' = no' refl

pub partitioned_kept : {X Y : Type 0} (f : X → Y) (q : Y → Bool) (xs : List X) → IsPartitionedBy q (map f xs) → IsPartitionedBy (λ x. q (f x)) xs
partitioned_kept f q xs parted i j d order within is =
    let few = length-map xs f in
    let here = get_or-map f xs i d (f d) (omega arith) in
    let there = get_or-map f xs j d (f d) within in
    sym (ap q here) ∙ parted i j (f d) order (omega arith) (ap q there ∙ is)

pub point_seen : {X Y : Type 0} (f : X → Y) (q : Y → Bool) (xs : List X) (i : ℕ) → i ≤ length xs →
    IsPartitionPoint (λ x. q (f x) ≡ true) (λ x. q (f x) ≡ false) xs i → IsPartitionPoint (λ y. q y ≡ true) (λ y. q y ≡ false) (map f xs) i
point_seen f q xs i fits point = (
  within_map f (λ y. q y ≡ true) xs 0 i fits point.0,
  subst (AllWithin (λ y. q y ≡ false) (map f xs) i) (sym (length-map xs f)) (within_map f (λ y. q y ≡ false) xs i (length xs) (omega arith) point.1),
)

pub sorted_map : {X Y : Type 0} (f : X → Y) (lt : Y → Y → Bool) (xs : List X) → IsSortedBy (λ a b. lt (f a) (f b)) xs → IsSortedBy lt (map f xs)
sorted_map f lt [] sorted k d low within = absurd (omega arith)
sorted_map f lt (x ∷ xs) sorted k d low within =
    let few = length-map (x ∷ xs) f in
    (λ i. lt (get_or-map f (x ∷ xs) (k + 1) x d (omega arith) i) (get_or-map f (x ∷ xs) k x d (omega arith) i)) ∙ sorted k x low (omega arith)
