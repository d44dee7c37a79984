-- The chain of keys that are prefixes of one another.
-- Used by `last_begun`.
use Rattle.std.proofs.Common.{◌≡◌, ℕ, ◌+◌, ◌-◌, ◌<◌, ◌≤◌, All, Bool, true, false, inl, inr, List, ◌∷◌, ◌++◌, length, refl, sym, ap, ◌∙◌, subst, suc, arith, eqb-true}
use Rattle.std.specs.Prelude.{◌==◌, ◌≢◌, nat_le, Option, Some, None, slice_index}
use Rattle.std.specs.List.Sorted.{IsSortedBy}
use Rattle.std.specs.declared.cmp.Ordering.{Ordering}
use Rattle.std.specs.declared.cmp.Ordering.TheVariants.{Less, Equal, Greater}
use Rattle.std.specs.Ordering.{is_lt, nat_cmp, ordering_then}
use Rattle.std.specs.Cmp.{IsTotalOrder}
use Rattle.std.specs.Cmp.Lexicographic.{slice_cmp}
use Rattle.std.proofs.lemmas.Bool.{and_parts, cases_lt, eq-eqb, true≢false}
use Rattle.std.proofs.lemmas.Bool.Decides.{nat_tests}
use Rattle.std.proofs.lemmas.Cmp.{back_total, nat_cmp_total, nat_list_cmp_total, on_total, then_total}
use Rattle.std.proofs.lemmas.List.Sorted.{ranks_by, sorted_far}
use Rattle.robots_verdict.specs.Parents.{listed, parent_of}
use Rattle.robots_verdict.specs.Placed.{Placed}
use Rattle.robots_verdict.specs.Rows.{row_at}
use Rattle.robots_verdict.specs.Search.{AreParents, is_front_of, common, compare_plain, IsLastBegun, key, key_at}
use Rattle.robots_verdict.proofs.Listed.{pushed_behind, pushed_last}
use Rattle.robots_verdict.proofs.Begins.{begins_below, begins_between, begins_common, begins_itself, begins_trans}

abbrev words : List ℕ → List ℕ → Ordering
words = slice_cmp nat_cmp

pub plain_total : (rows : List Placed) → IsTotalOrder (compare_plain rows)
plain_total rows = then_total (on_total (key rows) nat_list_cmp_total) (back_total nat_cmp_total)

pub first_text : (o o' : Ordering) → is_lt (ordering_then o o') ≡ false → is_lt o ≡ false
first_text Less o' is = is
first_text Equal o' is = refl
first_text Greater o' is = refl

abbrev pub Rise : List Placed → List ℕ → Type 0
Rise rows places = IsSortedBy (λ one other. is_lt (compare_plain rows one other)) places

pub far : (rows : List Placed) (places : List ℕ) → Rise rows places → (i j : ℕ) → i ≤ j → j < length places → is_lt (compare_plain rows (slice_index places j) (slice_index places i)) ≡ false
far rows places rise i j order within = sorted_far (λ one other. is_lt (compare_plain rows one other)) (ranks_by (plain_total rows) (λ (n : ℕ). n)) places rise i j 0 order within

pub keys_rise : (rows : List Placed) (places : List ℕ) → Rise rows places → (i j : ℕ) → i ≤ j → j < length places → is_lt (words (key_at rows places j) (key_at rows places i)) ≡ false
keys_rise rows places rise i j order within = first_text (words (key_at rows places j) (key_at rows places i)) _ (far rows places rise i j order within)

-- all prefixes of the text are in the chain of this one, itself a prefix of the top
pub record IsNear (rows : List Placed) (places : List ℕ) (count : ℕ) (text top : List ℕ) (last : ℕ) : Type 0 where
  pub within : last < count
  pub in_chain : is_front_of (key_at rows places last) top ≡ true
  pub all : (index : ℕ) → index < count → is_front_of (key_at rows places index) text ≡ true → (index ≤ last) × (is_front_of (key_at rows places index) (key_at rows places last) ≡ true)

module _ (rows : List Placed) (places : List ℕ) (rise : Rise rows places) (count : ℕ) (fits : count ≤ length places) (text : List ℕ)
    (behind : (index : ℕ) → index < count → is_lt (words text (key_at rows places index)) ≡ false) (some : 0 < count) where
  pub near_top : IsNear rows places count text (key_at rows places (count - 1)) (count - 1)
  near_top = record {
    within = omega arith;
    in_chain = begins_itself (key_at rows places (count - 1));
    all = λ index less is. (
      omega arith,
      begins_between (key_at rows places index) (key_at rows places (count - 1)) text is
          (keys_rise rows places rise index (count - 1) (omega arith) (omega arith)) (behind (count - 1) (omega arith)),
    );
  }

  module _ (last : ℕ) (near : IsNear rows places count text (key_at rows places (count - 1)) last) where
    pub begun : is_front_of (key_at rows places last) text ≡ nat_le (length (key_at rows places last)) (common (key_at rows places (count - 1)) text)
    begun = begins_common (key_at rows places last) (key_at rows places (count - 1)) text near.in_chain

    pub found : is_front_of (key_at rows places last) text ≡ true → IsLastBegun rows places count text (Some last)
    found is = (near.within, is, λ index less also. (near.all index less also).0)

    earlier : is_front_of (key_at rows places last) text ≡ false → (index : ℕ) → index < count → is_front_of (key_at rows places index) text ≡ true → index < last
    earlier not index less is = elim (cases_lt index last) [
      | inl below ↦ below
      | inr above ↦ (
          let most = (near.all index less is).0 in
          let same : index ≡ last = omega arith in
          absurd (true≢false (sym is ∙ ap (λ n. is_front_of (key_at rows places n) text) same ∙ not))
          )
    ]

    pub none_near : is_front_of (key_at rows places last) text ≡ false → IsLastBegun rows places last (key_at rows places last) None → IsLastBegun rows places count text None
    none_near not none index less = by (is_front_of (key_at rows places index) text) refl
      where
        by : (is : Bool) → is_front_of (key_at rows places index) text ≡ is → is ≡ false
        by false is = refl
        by true is = absurd (true≢false (sym (near.all index less is).1 ∙ none index (earlier not index less is)))

    pub near_parent : (parent : ℕ) → is_front_of (key_at rows places last) text ≡ false → IsLastBegun rows places last (key_at rows places last) (Some parent) →
        IsNear rows places count text (key_at rows places (count - 1)) parent
    near_parent parent not is = record {
      within = let low = is.0 in let high = near.within in omega arith;
      in_chain = begins_trans (key_at rows places parent) (key_at rows places last) (key_at rows places (count - 1)) is.1 near.in_chain;
      all = λ index less also.
          let below = earlier not index less also in
          let inside = (near.all index less also).1 in
          let order = is.2 index below inside in
          let low = is.0 in
          let high = near.within in (
            order,
            begins_between (key_at rows places index) (key_at rows places parent) (key_at rows places last) inside
                (keys_rise rows places rise index parent order (omega arith)) (begins_below (key_at rows places parent) (key_at rows places last) is.1),
          );
    }

pub reaches : (g g' len n : ℕ) (one other : List ℕ) → g ≡ g' → n ≡ common one other → len ≤ n → nat_le (suc len) (common (g ∷ one) (g' ∷ other)) ≡ true
reaches g g' len n one other same is fits = rw (eq-eqb g g' same) (grind (arith, nat_tests))

pub falls_short : (g g' len n : ℕ) (one other : List ℕ) → g ≡ g' → n ≡ common one other → n < len → nat_le (suc len) (common (g ∷ one) (g' ∷ other)) ≡ false
falls_short g g' len n one other same is short = rw (eq-eqb g g' same) (grind (arith, nat_tests))

pub none_of_group : (rows : List Placed) (places : List ℕ) (rise : Rise rows places) (count : ℕ) (fits : count ≤ length places) (group : ℕ) (path : List ℕ)
    (behind : (index : ℕ) → index < count → is_lt (words (group ∷ path) (key_at rows places index)) ≡ false) (some : 0 < count) →
    ((row_at rows (slice_index places (count - 1))).group ≢ group) → IsLastBegun rows places count (group ∷ path) None
none_of_group rows places rise count fits group path behind some other index less = by (is_front_of (key_at rows places index) (group ∷ path)) refl
  where
    by : (is : Bool) → is_front_of (key_at rows places index) (group ∷ path) ≡ is → is ≡ false
    by false is = refl
    by true is =
        let near = near_top rows places rise count fits (group ∷ path) behind some in
        let inside = (near.all index less is).1 in
        let one = row_at rows (slice_index places index) in
        let top = row_at rows (slice_index places (count - 1)) in
        let here = eqb-true one.group group (and_parts (one.group == group) (is_front_of one.form path) is).0 in
        let there = eqb-true one.group top.group (and_parts (one.group == top.group) (is_front_of one.form top.form) inside).0 in
        absurd (other (sym there ∙ here))

pub parents_pushed : (rows : List Placed) (places : List ℕ) (parents : List (ℕ × ℕ)) (count : ℕ) (parent : Option ℕ) → All (λ child. child.0 < count) parents →
    AreParents rows places parents count → IsLastBegun rows places count (key_at rows places count) parent → AreParents rows places (parents ++ listed count parent) (count + 1)
parents_pushed rows places parents count parent behind known is index less = elim (cases_lt index count) [
  | inl below ↦ subst (IsLastBegun rows places index (key_at rows places index)) (sym (pushed_behind parents count parent index below)) (known index below)
  | inr above ↦ (
      let same : count ≡ index = omega (arith, less, above) in
      subst (λ (n : ℕ). IsLastBegun rows places n (key_at rows places n) (parent_of (parents ++ listed count parent) n)) same
      (subst (IsLastBegun rows places count (key_at rows places count)) (sym (pushed_last parents count parent behind)) is)
      )
]
