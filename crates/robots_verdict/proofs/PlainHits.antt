-- The plain rows that match a path are its prefixes; the last of them by text is the strongest.
-- Used by `Plain`.
use Rattle.std.proofs.Common.{◌≡◌, ◌≢◌, ℕ, ◌+◌, ◌-◌, ◌<◌, ◌≤◌, Bool, true, false, not, inl, inr, List, [], ◌∷◌, ◌++◌, length, take, Contains, refl, sym, ap, ◌∙◌, subst, arith, eqb-true}
use Rattle.std.specs.Prelude.{◌==◌, ◌&&◌, ◌↔◌, nat_lt, slice_index, Some, None}
use Rattle.std.specs.List.{list_all}
use Rattle.std.specs.List.Sorted.{IsSortedBy}
use Rattle.std.specs.declared.cmp.Ordering.{Ordering}
use Rattle.std.specs.Ordering.{is_gt, is_lt, nat_cmp, ordering_then}
use Rattle.std.specs.Cmp.Lexicographic.{slice_cmp}
use Rattle.std.proofs.lemmas.Bool.{and_parts, cases_lt, cond-false, true≢false}
use Rattle.std.proofs.lemmas.Cmp.{nat_list_cmp_total, tied_itself}
use Rattle.std.proofs.lemmas.List.{get_or_default}
use Rattle.std.proofs.lemmas.List.Sorted.{ranks_by, sorted_far}
use Rattle.path_normal.specs.Normal.{is_anchored, unanchored}
use Rattle.path_normal.specs.Octets.{star}
use Rattle.path_pattern.specs.Matches.{Matches, Spells}
use Rattle.path_pattern.specs.Literals.{HasNoStar}
use Rattle.path_pattern.proofs.CallerLemmas.{no_star, off_last, on_last}
use Rattle.robots_verdict.specs.Index.{FindsLeast}
use Rattle.robots_verdict.specs.Placed.{Placed}
use Rattle.robots_verdict.specs.Rows.{is_row_above, row_at, no_row, weight_at}
use Rattle.robots_verdict.specs.Search.{is_front_of, is_plain_pattern, IsCut, IsLastBegun, IsPlainHit, IsStoodFor, key, key_at}
use Rattle.robots_verdict.proofs.Begins.{begins_below, begins_between, begins_shorter, begins_whole, on_both}
use Rattle.robots_verdict.proofs.Chains.{far, keys_rise, Rise}
use Rattle.robots_verdict.proofs.HeadLemmas.{below_not, true_not, turned}
use Rattle.robots_verdict.proofs.Weighing.{falling_total, last_level, level}

abbrev words : List ℕ → List ℕ → Ordering
words = slice_cmp nat_cmp

-- ---- what a plain pattern matches

begun_front : (front rest : List ℕ) → is_front_of front (front ++ rest) ≡ true
begun_front [] rest = refl
begun_front (octet ∷ front) rest = on_both octet octet true (is_front_of front (front ++ rest)) refl (begun_front front rest)

front_begun : (front text : List ℕ) → is_front_of front text ≡ true → (rest : List ℕ) × (text ≡ front ++ rest)
front_begun [] text is = (text, refl)
front_begun (octet ∷ front) [] is = absurd (true≢false (sym is))
front_begun (octet ∷ front) (first ∷ text) is =
    let parts = and_parts (octet == first) (is_front_of front text) is in
    let later = front_begun front text parts.1 in
    (later.0, λ i. sym (eqb-true octet first parts.0) i ∷ later.1 i)

-- what a plain pattern is
record Plainness (form : List ℕ) : Type 0 where
  some : form ≢ []
  open_ended : is_anchored form ≡ false
  starless : HasNoStar form

some_octet : (form : List ℕ) → nat_lt 0 (length form) ≡ true → form ≢ []
some_octet [] is same = true≢false (sym is)
some_octet (octet ∷ form) is same = omega (arith, ap length same)

plainness : (form : List ℕ) → is_plain_pattern form ≡ true → Plainness form
plainness form is =
    let starless = list_all (λ octet. not (octet == star)) form in
    let front = nat_lt 0 (length form) && not (is_anchored form) in
    let parts = and_parts front starless is in
    let both = and_parts (nat_lt 0 (length form)) (not (is_anchored form)) parts.0 in
    record { some = some_octet form both.0; open_ended = true_not (is_anchored form) both.1; starless = no_star form parts.1 }

pub plain_matches : (form path : List ℕ) → is_plain_pattern form ≡ true → Matches form path ↔ (is_front_of form path ≡ true)
plain_matches form path is =
    let kind = plainness form is in
    let whole : unanchored form ≡ form = cond-false (is_anchored form) (take (length form - 1) form) form kind.open_ended in (
      λ matches.
          let spells = subst (λ (run : List ℕ). Spells run (is_anchored form) path) whole matches.spells in
          let last = off_last form (is_anchored form) path kind.starless spells in
          ap (is_front_of form) last.1 ∙ begun_front form last.0,
      λ begun.
          let front = front_begun form path begun in
          record {
            some = kind.some;
            spells = subst (λ (run : List ℕ). Spells run (is_anchored form) path) (sym whole)
                (on_last form (is_anchored form) path front.0 kind.starless front.1 (λ ends. absurd (true≢false (sym ends ∙ kind.open_ended))));
          },
    )

-- ---- the strongest of the plain rows

-- the cut is between these two
pub record IsCutWithin (rows : List Placed) (places text : List ℕ) (low high : ℕ) : Type 0 where
  pub order : low ≤ high
  pub fits : high ≤ length places
  pub below : (k : ℕ) → k < low → is_gt (words (key_at rows places k) text) ≡ false
  pub above : (k : ℕ) → high ≤ k → k < length places → is_gt (words (key_at rows places k) text) ≡ true

pub cut_of : (rows : List Placed) (places text : List ℕ) (low high : ℕ) → IsCutWithin rows places text low high → high ≤ low → IsCut rows places text low
cut_of rows places text low high within met = record {
  fits = let order = within.order in let fits = within.fits in omega arith;
  below = within.below;
  above = λ k more less. let order = within.order in within.above k (omega arith) less;
}

module _ (rows : List Placed) (places text : List ℕ) (rise : Rise rows places) (low high middle : ℕ) (within : IsCutWithin rows places text low high) (from : low ≤ middle)
    (to : middle < high) where
  inside : middle < length places
  inside = let fits = within.fits in omega arith

  pub cut_above : is_gt (words (key_at rows places middle) text) ≡ false → IsCutWithin rows places text (middle + 1) high
  cut_above is = record {
    order = omega arith;
    fits = within.fits;
    below = λ k less. below_not (words (key_at rows places k) text) (key_at rows places k) (key_at rows places middle) text refl (keys_rise rows places rise k middle (omega arith) inside) is;
    above = within.above;
  }

  pub cut_below : is_gt (words (key_at rows places middle) text) ≡ true → IsCutWithin rows places text low middle
  cut_below is = record {
    order = from;
    fits = omega (arith, inside);
    below = within.below;
    above = λ k more less. by k more less (is_gt (words (key_at rows places k) text)) refl;
  }
    where
      by : (k : ℕ) → middle ≤ k → k < length places → (behind : Bool) → is_gt (words (key_at rows places k) text) ≡ behind → is_gt (words (key_at rows places k) text) ≡ true
      by k more less true behind = behind
      by k more less false behind =
          let low = keys_rise rows places rise middle k more less in
          absurd (true≢false (sym is ∙ below_not (words (key_at rows places middle) text) (key_at rows places middle) (key_at rows places k) text refl low behind))

module _ (rows : List Placed) (places : List ℕ) (rise : Rise rows places) (group : ℕ) (path : List ℕ) (count : ℕ) (cut : IsCut rows places (group ∷ path) count) where
  pub none_behind : (index : ℕ) → index < count → is_lt (words (group ∷ path) (key_at rows places index)) ≡ false
  none_behind index less = turned (group ∷ path) (key_at rows places index) ∙ cut.below index less

  module _ (each : (place : ℕ) → place < length rows → is_plain_pattern (row_at rows place).form ≡ true → IsStoodFor rows places place) where
    -- the index of a hit, or of one as strong with the same pattern
    record StandsAt (place : ℕ) : Type 0 where
      index : ℕ
      within : index < count
      above : slice_index places index ≤ place
      begun : is_front_of (key_at rows places index) (group ∷ path) ≡ true

    hit_index : (place : ℕ) → IsPlainHit rows group path place → StandsAt place
    hit_index place hit =
        let row = row_at rows place in
        let for = each place hit.within hit.plain in
        let stands = for.stands in
        let is : slice_index places stands.0 ≡ for.by = get_or_default places stands.0 0 for.by stands.1 ∙ stands.2 in
        let begun = subst (λ (text : List ℕ). is_front_of text (group ∷ path) ≡ true) (sym (ap (key rows) is ∙ for.alike)) (on_both row.group group true (is_front_of row.form path) hit.in_group hit.begun) in
        record { index = stands.0; within = within stands.0 stands.1 begun; above = let above = for.above in omega (arith, is, above); begun = begun }
      where
        within : (k : ℕ) → k < length places → is_front_of (key_at rows places k) (group ∷ path) ≡ true → k < count
        within k less begun = elim (cases_lt k count) [
          | inl below ↦ below
          | inr above ↦ absurd (true≢false (sym (cut.above k above less)
              ∙ sym (turned (group ∷ path) (key_at rows places k)) ∙ begins_below (key_at rows places k) (group ∷ path) begun))
        ]

    pub none_hits : IsLastBegun rows places count (group ∷ path) None → FindsLeast (IsPlainHit rows group path) None
    none_hits none place hit = let at = hit_index place hit in true≢false (sym at.begun ∙ none at.index at.within)

    module _ (are : (place : ℕ) → Contains places place → (place < length rows) × (is_plain_pattern (row_at rows place).form ≡ true)) (falling : IsSortedBy is_row_above rows) where
      stands : (k : ℕ) → k < count → (slice_index places k < length rows) × (is_plain_pattern (row_at rows (slice_index places k)).form ≡ true)
      stands k less =
          let fits = cut.fits in
          are (slice_index places k) (k, omega arith, get_or_default places k (slice_index places k) 0 (omega arith))

      order : (k last : ℕ) → k ≤ last → last < count → is_front_of (key_at rows places k) (group ∷ path) ≡ true → is_front_of (key_at rows places last) (group ∷ path) ≡ true →
          slice_index places last ≤ slice_index places k
      order k last earlier within begun also = elim (cases_lt (slice_index places k) (slice_index places last)) [
        | inr above ↦ above
        | inl below ↦ absurd (tie below)
      ]
        where
          p : ℕ
          p = slice_index places k

          q : ℕ
          q = slice_index places last

          inside : last < length places
          inside = let fits = cut.fits in omega arith

          prefix : is_front_of (key rows p) (key rows q) ≡ true
          prefix = begins_between (key rows p) (key rows q) (group ∷ path) begun (keys_rise rows places rise k last earlier inside) (begins_below (key rows q) (group ∷ path) also)

          shorter : p < q → length (row_at rows q).form ≤ length (row_at rows p).form
          shorter less =
              (level (length (row_at rows p).form) (length (row_at rows q).form) _
              (sorted_far is_row_above (ranks_by falling_total weight_at) rows falling p q no_row (omega arith) (stands last within).0)).0

          same : p < q → key rows p ≡ key rows q
          same less = let low = shorter less in let high = begins_shorter (key rows p) (key rows q) prefix in begins_whole (key rows p) (key rows q) prefix (omega arith)

          tie : p < q → ⊥
          tie less =
              let equal = ap (words (key rows q)) (same less) ∙ tied_itself nat_list_cmp_total (key rows q) in
              let later = ap (λ (o : Ordering). is_lt (ordering_then o (nat_cmp p q))) (sym equal) ∙ far rows places rise k last earlier inside in
              let above = last_level p q later in
              omega arith

      pub last_hits : (last : ℕ) → IsLastBegun rows places count (group ∷ path) (Some last) → FindsLeast (IsPlainHit rows group path) (Some (slice_index places last))
      last_hits last is =
          let place = slice_index places last in
          let row = row_at rows place in
          let both = stands last is.0 in
          let parts = and_parts (row.group == group) (is_front_of row.form path) is.1 in (
            record { within = both.0; plain = both.1; in_group = eqb-true row.group group parts.0; begun = parts.1 },
            λ other hit.
                let at = hit_index other hit in
                let low = order at.index last (is.2 at.index at.within at.begun) is.0 at.begun is.1 in
                let above = at.above in
                omega (arith, low, above),
          )
