-- The lanes left of a block, octet by octet of the literal, and its first place.
-- Used by the search by blocks.
use Rattle.std.proofs.Common.{◌^◌, w64, ◌≡◌, ◌≢◌, ◌↔◌, ◌+◌, ◌-◌, ◌<◌, ◌≤◌, ◌==◌, ℕ, Bool, true, false, List, length, get_or, replicate, cond, refl, sym, ap, subst, ◌∙◌, arith, ⊎_elim, ◌⊎◌}
use Rattle.std.specs.Prelude.{if◌then◌else◌, slice_index, None, Some}
use Rattle.std.specs.Int.{bit_at}
use Rattle.std.specs.Simd.Lanes.{sel_l, zip2}
use Rattle.std.proofs.lemmas.Bool.{cases_lt, cases_eq, eq-eqb, eqb-true, true≢false}
use Rattle.std.proofs.lemmas.Nat.Bits.{bit_at-trailing_zeros, bit_at-zero}
use Rattle.std.proofs.lemmas.Simd.{get_or-replicate, get_or-sel_l, get_or-zip2, length-sel_l, length-zip2}
use Rattle.memchr.specs.Find.{FindsNeedle, NoneBefore, Nowhere, OccursAt}
use Rattle.memchr.proofs.lemmas.FindLemmas.{Nowhere-then}
use Rattle.path_pattern.specs.Blocks.{HasLanes, HasOctet, IsLeftOf, IsNoneLeft}

-- lanes are left at all places of the literal among the 64 from start on; a lane left has the first octets of the
-- literal, as many as seen
pub record IsLeft (path literal : List ℕ) (start seen : ℕ) (lanes : List ℕ) : Type 0 where
  pub all : (k : ℕ) → k < 64 → OccursAt path literal (start + k) → 128 ≤ slice_index lanes k
  pub begun : (k : ℕ) → k < 64 → 128 ≤ slice_index lanes k → (j : ℕ) → j < seen → j < length literal → HasOctet path literal start k j

pub HasLanes-select : (t : ℕ → ℕ → Bool) (a b : List ℕ) (x z : ℕ) → length a ≡ 64 → length b ≡ 64
    → HasLanes (sel_l (zip2 t a (replicate 64 x)) b (replicate 64 z)) (λ k. cond (t (get_or a k 0) x) (get_or b k 0) z)
HasLanes-select t a b x z p q =
    let long : length (zip2 t a (replicate 64 x)) ≡ 64 = length-zip2 t a (replicate 64 x) p ∙ p in
    record {
      long = length-sel_l _ b (replicate 64 z) (long ∙ sym q) long ∙ long;
      each = λ k l.
          get_or-sel_l _ b (replicate 64 z) k 0 (omega arith) (omega arith) l
          ∙ (λ i. cond ((get_or-zip2 t a (replicate 64 x) k 0 0 false (omega arith) l ∙ ap (t (get_or a k 0)) (get_or-replicate 64 k x 0 l)) i) (get_or b k 0) (get_or-replicate 64 k z 0 l i));
    }

-- ---- one octet more

kept : (b : Bool) (lane : ℕ) → b ≡ true → 128 ≤ lane → 128 ≤ cond b lane 0
kept true lane is low = low
kept false lane is low = absurd (true≢false (sym is))

was_kept : (b : Bool) (lane : ℕ) → 128 ≤ cond b lane 0 → (b ≡ true) × (128 ≤ lane)
was_kept true lane low = (refl, low)
was_kept false lane low = absurd (omega arith)

module _ (path literal : List ℕ) (start j place : ℕ) (lanes more : List ℕ) (at : place ≡ start + j)
    (test : HasLanes more (λ k. if slice_index path (place + k) == slice_index literal j then slice_index lanes k else 0)) where
  there : (k : ℕ) → slice_index path (place + k) ≡ slice_index path (start + k + j)
  there k = ap (λ p. get_or path p 0) (omega arith)

  lane_kept : (k : ℕ) → k < 64 → slice_index path (start + k + j) ≡ slice_index literal j → 128 ≤ slice_index lanes k → 128 ≤ slice_index more k
  lane_kept k below stands low =
      subst (λ lane. 128 ≤ lane) (sym (test.each k below)) (kept _ (slice_index lanes k) (eq-eqb _ _ (there k ∙ stands)) low)

  lane_was_kept : (k : ℕ) → k < 64 → 128 ≤ slice_index more k → (slice_index path (start + k + j) ≡ slice_index literal j) × (128 ≤ slice_index lanes k)
  lane_was_kept k below low =
      let was = was_kept _ (slice_index lanes k) (subst (λ lane. 128 ≤ lane) (test.each k below) low) in
      (sym (there k) ∙ eqb-true _ _ was.0, was.1)

pub left_of_two : (path literal : List ℕ) (start i j place next : ℕ) (before one two : List ℕ) → place ≡ start + i → next ≡ start + j
    → HasLanes one (λ k. if slice_index path (place + k) == slice_index literal i then slice_index before k else 0)
    → HasLanes two (λ k. if slice_index path (next + k) == slice_index literal j then slice_index one k else 0)
    → IsLeftOf path literal start i j before two
left_of_two path literal start i j place next before one two at at_next test test_next =
    let was_one = λ (k : ℕ) (below : k < 64) (low : 128 ≤ slice_index two k). lane_was_kept path literal start j next one two at_next test_next k below low in
    let was = λ (k : ℕ) (below : k < 64) (low : 128 ≤ slice_index two k). lane_was_kept path literal start i place before one at test k below (was_one k below low).1 in
    record {
      kept = λ k below low stands stands_next. lane_kept path literal start j next one two at_next test_next k below stands_next (lane_kept path literal start i place before one at test k below stands low);
      was = λ k below low. (was k below low).1;
      first = λ k below low. (was k below low).0;
      second = λ k below low. (was_one k below low).0;
    }

-- ---- the octets of the literal, two by two

left_all : (path literal : List ℕ) (start i j : ℕ) (before left : List ℕ) → i < length literal → j < length literal → IsLeftOf path literal start i j before left → (k : ℕ) → k < 64 → OccursAt path literal (start + k) → 128 ≤ slice_index before k → 128 ≤ slice_index left k
left_all path literal start i j before left within within_next of k below occurs low =
    of.kept k below low (occurs.reads i within) (occurs.reads j within_next)

pub left_at_first : (path literal : List ℕ) (start i j : ℕ) (left : List ℕ) → i < length literal → j < length literal → IsLeftOf path literal start i j (replicate 64 255) left → IsLeft path literal start 0 left
left_at_first path literal start i j left within within_next of = record {
  all = λ k below occurs.
      let full : slice_index (replicate 64 255) k ≡ 255 = get_or-replicate 64 k 255 0 below in
      left_all path literal start i j (replicate 64 255) left within within_next of k below occurs (omega arith);
  begun = λ k below low j none. absurd (omega arith);
}

pub left_by_next : (path literal : List ℕ) (start seen pair : ℕ) (before left : List ℕ) → pair + 1 < length literal → pair ≤ seen → (pair ≡ seen) ⊎ (pair + 2 ≡ length literal) → IsLeftOf path literal start pair (pair + 1) before left → IsLeft path literal start seen before → IsLeft path literal start (seen + 2) left
left_by_next path literal start seen pair before left within low_pair which of was = record {
  all = λ k below occurs. left_all path literal start pair (pair + 1) before left (omega arith) within of k below occurs (was.all k below occurs);
  begun = λ k below low j under inside.
      ⊎_elim (λ old. was.begun k below (of.was k below low) j old inside) (λ new.
      ⊎_elim (λ same. subst (HasOctet path literal start k) (sym same) (of.first k below low)) (λ other.
      let same : j ≡ pair + 1 = ⊎_elim (λ p. omega arith) (λ p. omega arith) which in
      subst (HasOctet path literal start k) (sym same) (of.second k below low)) (cases_eq j pair)) (cases_lt j seen);
}

-- ---- the first place of a block

-- a lane that is left after all octets were seen is at a place of the literal
stands_where_left : (path literal lanes : List ℕ) (start seen : ℕ) → start + 63 + length literal ≤ length path → length literal ≤ seen → IsLeft path literal start seen lanes → (k : ℕ) → k < 64 → 128 ≤ slice_index lanes k → OccursAt path literal (start + k)
stands_where_left path literal lanes start seen room all left k below low = record {
  fits = omega arith;
  reads = λ j under. left.begun k below low j (omega arith) under;
}

lane_at : (path literal lanes : List ℕ) (start seen : ℕ) → IsLeft path literal start seen lanes → (k : ℕ) → start ≤ k → k < start + 64 → OccursAt path literal k → 128 ≤ slice_index lanes (k - start)
lane_at path literal lanes start seen left k low high occurs =
    let same : k ≡ start + (k - start) = omega arith in
    left.all (k - start) (omega arith) (subst (OccursAt path literal) same occurs)

pub nowhere_in_block : (path literal lanes : List ℕ) (start seen : ℕ) → IsLeft path literal start seen lanes → IsNoneLeft lanes → Nowhere (OccursAt path literal) start (start + 64)
nowhere_in_block path literal lanes start seen left none k low high occurs =
    omega (arith, none (k - start), lane_at path literal lanes start seen left k low high occurs)

pub no_bit : (m : ℕ) → m < 2 ^ 64 → ((k : ℕ) → ¬ (bit_at m k ≡ 1)) → m ≡ 0
no_bit m fits none = ⊎_elim (λ is. is) (λ other. absurd (none _ (bit_at-trailing_zeros w64 m (omega (arith, other)) fits).1)) (cases_eq m 0)

pub some_marked : (lanes : List ℕ) (marks : ℕ) → ¬ (IsNoneLeft lanes) → ((k : ℕ) → (bit_at marks k ≡ 1) ↔ (128 ≤ slice_index lanes k)) → marks ≢ 0
some_marked lanes marks some bits none =
    some (λ k. ⊎_elim (λ low. low) (λ high. absurd (omega (arith, bit_at-zero k, subst (λ m. bit_at m k ≡ 1) none ((bits k).1 high)))) (cases_lt (slice_index lanes k) 128))

pub first_in_block : (path literal lanes : List ℕ) (start seen marks bit : ℕ) → start + 63 + length literal ≤ length path → length literal ≤ seen → IsLeft path literal start seen lanes → ((k : ℕ) → (bit_at marks k ≡ 1) ↔ (128 ≤ slice_index lanes k))
    → bit < 64 → bit_at marks bit ≡ 1 → ((k : ℕ) → k < bit → bit_at marks k ≡ 0) → NoneBefore (OccursAt path literal) start (start + 64) (start + bit) × OccursAt path literal (start + bit)
first_in_block path literal lanes start seen marks bit room all left bits bound set below = (
  record {
    low = omega arith;
    high = omega arith;
    before = λ k low high occurs. omega (arith, below (k - start) (omega arith), (bits (k - start)).1 (lane_at path literal lanes start seen left k low (omega arith) occurs));
  },
  stands_where_left path literal lanes start seen room all left bit bound ((bits bit).0 set),
)

-- ---- the blocks of a path

module _ (path literal : List ℕ) (from start : ℕ) (none : Nowhere (OccursAt path literal) from start) where
  pub first_of_blocks : (end place : ℕ) → from ≤ start → NoneBefore (OccursAt path literal) start end place → OccursAt path literal place → FindsNeedle path literal from (Some place)
  first_of_blocks end place not_before found occurs =
      let fits = occurs.fits in
      (record { low = omega (arith, found.low); high = omega arith; before = Nowhere-then none found.before }, occurs)

  pub nowhere_before : (last : ℕ) → last ≤ start → Nowhere (OccursAt path literal) from last
  nowhere_before last past k low high = none k low (omega arith)

  pub nowhere_in_blocks : (last : ℕ) → last + 63 + length literal ≡ length path → last ≤ start → Nowhere (OccursAt path literal) last (last + 64) → FindsNeedle path literal from None
  nowhere_in_blocks last ends past later k low high occurs =
      let fits = occurs.fits in
      ⊎_elim (λ before. none k low (omega arith) occurs) (λ from. later k from (omega arith) occurs) (cases_lt k last)
