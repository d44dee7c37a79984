-- The first row of a group that matches is the strongest of its other rows.
-- Used by `Others`.
use Rattle.std.proofs.Common.{◌≡◌, ◌≢◌, ◌⊎◌, ℕ, ◌<◌, ◌≤◌, true, false, inl, inr, List, length, get_or, refl, sym, ap, ◌∙◌, subst, arith}
use Rattle.std.specs.Prelude.{nat_lt, slice_index, Option, Some, None, unwrap_or, is_some}
use Rattle.std.specs.List.Sorted.{IsNonDecreasing, IsPartitionedBy, IsPartitionPoint, IsSortedBy}
use Rattle.std.specs.Ordering.{is_lt}
use Rattle.std.specs.Cmp.{IsTotalOrder}
use Rattle.std.proofs.lemmas.Bool.{cases_lt, true≢false}
use Rattle.std.proofs.lemmas.Bool.Decides.{nat_tests}
use Rattle.std.proofs.lemmas.Cmp.{nat_cmp_total, on_total, then_total}
use Rattle.std.proofs.lemmas.List.{get_or_default, get_or-map, length-map}
use Rattle.std.proofs.lemmas.List.Sorted.{ranks_by, sorted_far}
use Rattle.path_pattern.specs.Matches.{Matches}
use Rattle.robots_verdict.specs.Index.{FindsLeast}
use Rattle.robots_verdict.specs.Placed.{Placed}
use Rattle.robots_verdict.specs.Rows.{row_at}
use Rattle.robots_verdict.specs.Search.{compare_others, groups_at, IsAbove, IsFound, IsGroupCut, IsOtherHit, IsOtherIndex, IsPassed}
use Rattle.robots_verdict.proofs.Placing.{as_many, group_at}
use Rattle.robots_verdict.proofs.Weighing.{last_level, level}

pub others_total : (rows : List Placed) → IsTotalOrder (compare_others rows)
others_total rows = then_total (on_total (λ place. (row_at rows place).group) nat_cmp_total) nat_cmp_total

abbrev pub RiseByGroup : List Placed → List ℕ → Type 0
RiseByGroup rows places = IsSortedBy (λ one other. is_lt (compare_others rows one other)) places

pub in_order : (rows : List Placed) (places : List ℕ) → RiseByGroup rows places → (i j d : ℕ) → i ≤ j → j < length places →
    let one = get_or places i d in let other = get_or places j d in
    ((row_at rows one).group ≤ (row_at rows other).group) × ((row_at rows other).group ≡ (row_at rows one).group → one ≤ other)
in_order rows places rise i j d order within =
    let one = get_or places i d in
    let other = get_or places j d in
    let levels = level (row_at rows other).group (row_at rows one).group _
    (sorted_far (λ a b. is_lt (compare_others rows a b)) (ranks_by (others_total rows) (λ (n : ℕ). n)) places rise i j d order within) in
    (levels.0, λ same. last_level other one (levels.1 same))

pub groups_rise : (rows : List Placed) (places groups : List ℕ) → RiseByGroup rows places → groups ≡ groups_at rows places → IsNonDecreasing groups
groups_rise rows places groups rise are = subst IsNonDecreasing (sym are) by
  where
    by : IsNonDecreasing (groups_at rows places)
    by i j d order within =
        let inside : j < length places = omega (arith, within, length-map places (λ (place : ℕ). (row_at rows place).group)) in
        let one = get_or-map (λ (place : ℕ). (row_at rows place).group) places i 0 d (omega arith) in
        let other = get_or-map (λ (place : ℕ). (row_at rows place).group) places j 0 d inside in
        let levels = in_order rows places rise i j 0 order inside in
        omega (arith, one, other, levels.0)

below : (group of : ℕ) → nat_lt of group ≡ true → of < group
below group of is = grind (arith, nat_tests)

not_below : (group of : ℕ) → nat_lt of group ≡ false → group ≤ of
not_below group of is = grind (arith, nat_tests)

is_below : (group of : ℕ) → of < group → nat_lt of group ≡ true
is_below group of less = grind (arith, nat_tests)

pub below_falls : (groups : List ℕ) (group : ℕ) → IsNonDecreasing groups → IsPartitionedBy (λ of. nat_lt of group) groups
below_falls groups group rise i j d order within is = is_below group (get_or groups i d) (omega (arith, rise i j d order within, below group (get_or groups j d) is))

pub group_cut_of : (groups : List ℕ) (group count : ℕ) → count ≤ length groups →
    IsPartitionPoint (λ of. nat_lt of group ≡ true) (λ of. nat_lt of group ≡ false) groups count → IsGroupCut groups group count
group_cut_of groups group count fits point = record {
  fits = fits;
  below = λ k less. below group _ (point.0 k 0 (omega arith) less);
  above = λ k more within. not_below group _ (point.1 k 0 more within);
}

some_is : (one other : ℕ) → Some one ≡ Some other → one ≡ other
some_is one other same = ap (λ (o : Option ℕ). unwrap_or o one) same

module _ (rows : List Placed) (places groups : List ℕ) (index : IsOtherIndex rows places groups) (group : ℕ) (path : List ℕ) (start : ℕ) (cut : IsGroupCut groups group start)
    (found : Option ℕ) where
  at_group : (k : ℕ) → k < length places → slice_index groups k ≡ (row_at rows (slice_index places k)).group
  at_group = group_at rows places groups index.groups_are

  many : length groups ≡ length places
  many = as_many rows places groups index.groups_are

  -- the index of a hit
  record StandsAt (place : ℕ) : Type 0 where
    at : ℕ
    from : start ≤ at
    within : at < length places
    is : slice_index places at ≡ place

  hit_index : (place : ℕ) → IsOtherHit rows group path place → StandsAt place
  hit_index place hit =
      let stands = (index.are place).1 (hit.within, hit.other) in
      let is : slice_index places stands.0 ≡ place = get_or_default places stands.0 0 place stands.1 ∙ stands.2 in
      record { at = stands.0; from = from stands.0 stands.1 is; within = stands.1; is = is }
    where
      from : (k : ℕ) → k < length places → slice_index places k ≡ place → start ≤ k
      from k within is = elim (cases_lt k start) [
        | inr order ↦ order
        | inl less ↦ (
            let same = ap (λ (p : ℕ). (row_at rows p).group) is ∙ hit.in_group in
            absurd (omega (arith, cut.below k less, at_group k within, same))
            )
      ]

  -- what was found so far, or a hit
  abbrev Test : ℕ → Type 0
  Test place = IsFound found place ⊎ IsOtherHit rows group path place

  outranked : (found' : Option ℕ) → found ≡ found' → ((place : ℕ) → IsOtherHit rows group path place → (best : ℕ) × (found ≡ Some best) × (best ≤ place)) → FindsLeast Test found'
  outranked None is behind = none
    where
      none : (place : ℕ) → Test place → ⊥
      none place (inl same) = true≢false (ap is_some (sym same ∙ is))
      none place (inr hit) = true≢false (ap is_some (sym (behind place hit).1 ∙ is))
  outranked (Some best) is behind = (
    inl is,
    λ place test. by place test,
  )
    where
      by : (place : ℕ) → Test place → best ≤ place
      by place (inl same) = let one = some_is best place (sym is ∙ same) in omega (arith, one)
      by place (inr hit) =
          let one = behind place hit in
          let same = some_is best one.0 (sym is ∙ one.1) in
          omega (arith, same, one.2)

  module _ (at : ℕ) (from : start ≤ at) (passed : IsPassed rows places group path start at) where
    -- the index is in the group, and its place is at most the hit's
    record StandsBehind (place : ℕ) : Type 0 where
      within : at < length places
      in_group : (row_at rows (slice_index places at)).group ≡ group
      behind : slice_index places at ≤ place

    behind : (place : ℕ) → IsOtherHit rows group path place → at < length places → StandsBehind place
    behind place hit inside =
        let stands = hit_index place hit in
        let place_is = stands.is in
        elim (cases_lt stands.at at) [
          | inl less ↦ absurd (passed stands.at stands.from less (subst (IsOtherHit rows group path) (sym place_is) hit))
          | inr order ↦ (
              let levels = in_order rows places index.rise at stands.at 0 order stands.within in
              let group_is = ap (λ (p : ℕ). (row_at rows p).group) place_is ∙ hit.in_group in
              let low = cut.above at from (omega (arith, inside, many)) in
              let same : (row_at rows (slice_index places at)).group ≡ group = omega (arith, levels.0, group_is, low, at_group at inside) in
              let order' = levels.1 (group_is ∙ sym same) in
              record { within = inside; in_group = same; behind = omega (arith, order', place_is) }
              )
        ]

    pub at_other_group : at < length places → (slice_index groups at ≢ group) → FindsLeast Test found
    at_other_group inside other = outranked found refl (λ place hit. absurd (other (at_group at inside ∙ (behind place hit inside).in_group)))

    pub at_weaker : at < length places → IsAbove found (slice_index places at) → FindsLeast Test found
    at_weaker inside above = outranked found refl (λ place hit. by found refl above place hit)
      where
        by : (found' : Option ℕ) → found ≡ found' → IsAbove found' (slice_index places at) → (place : ℕ) → IsOtherHit rows group path place → (best : ℕ) × (found ≡ Some best) × (best ≤ place)
        by None is above place hit = absurd above
        by (Some best) is above place hit = (best, is, omega (arith, above, (behind place hit inside).behind))

    pub at_end : length places ≤ at → FindsLeast Test found
    at_end over = outranked found refl (λ place hit.
        let stands = hit_index place hit in
        absurd (passed stands.at stands.from (omega (arith, stands.within, over)) (subst (IsOtherHit rows group path) (sym stands.is) hit)))

    pub at_hit : at < length places → (slice_index groups at ≡ group) → (IsAbove found (slice_index places at) → ⊥) →
        Matches (row_at rows (slice_index places at)).form path → FindsLeast Test (Some (slice_index places at))
    at_hit inside same not_above matches = (
      inr hit,
      λ place test. by place test,
    )
      where
        hit : IsOtherHit rows group path (slice_index places at)
        hit =
            let both = (index.are (slice_index places at)).0 (at, inside, get_or_default places at (slice_index places at) 0 inside) in
            record { within = both.0; other = both.1; in_group = sym (at_group at inside) ∙ same; matches = matches }

        by : (place : ℕ) → Test place → slice_index places at ≤ place
        by place (inl is) = elim (cases_lt place (slice_index places at)) [
          | inr order ↦ order
          | inl less ↦ absurd (not_above (subst (λ (o : Option ℕ). IsAbove o (slice_index places at)) (sym is) less))
        ]
        by place (inr other) = (behind place other inside).behind
