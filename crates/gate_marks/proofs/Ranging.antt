-- All places below a number: how often each occurs, and when they ascend with others after them.
-- Used by the functions of `merged_marks`.
use Rattle.std.proofs.Common.{◌≡◌, ℕ, zero, suc, ◌+◌, ◌<◌, ◌≤◌, ◌⊎◌, inl, inr, nat_lt, List, [], ◌∷◌, ◌++◌, length, get_or, drop, map, sym, ap, subst, ◌∙◌, arith}
use Rattle.std.specs.Prelude.{IfNone, None, Option, Some}
use Rattle.std.proofs.lemmas.List.{append_assoc, drop_more}
use Rattle.authority_cache.specs.Calls.{one_if}
use Rattle.gate_marks.specs.Marks.{Receipt, kept_places, places_of}
use Rattle.gate_marks.specs.Places.{AllAscend, Ascend, BeginsFrom, EachOnce, EachOnceFrom, IsBefore, places_below, times_in, times_in_all}
use Rattle.gate_marks.proofs.Merging.{at_most, below, next_below, not_below}

times-joined : (q : ℕ) (xs ys : List ℕ) → times_in q (xs ++ ys) ≡ times_in q xs + times_in q ys
times-joined q [] ys = omega arith
times-joined q (x ∷ xs) ys = let e = times-joined q xs ys in omega (arith, e)

times_below : (q count : ℕ) → times_in q (places_below count) ≡ one_if (nat_lt q count)
times_below q zero = sym (not_below q 0 (omega arith))
times_below q (suc count) =
    let a = times-joined q (places_below count) (count ∷ []) in
    let b = times_below q count in
    let c = next_below count q in
    let d : count + 1 ≡ suc count = omega arith in
    let e = ap (λ (n : ℕ). one_if (nat_lt q n)) d in
    omega (arith, a, b, c, e)

pub times_of : (q : ℕ) (r : Receipt) → times_in q (places_of r) ≡ one_if (nat_lt q r.sealed.before) + times_in q (kept_places r)
times_of q r =
    let a = times-joined q (places_below r.sealed.before) (kept_places r) in
    let b = times_below q r.sealed.before in
    omega (arith, a, b)

pub times_kept : (q : ℕ) (rs : List Receipt) → times_in_all q (map kept_places rs) ≤ times_in_all q (map places_of rs)
times_kept q [] = omega arith
times_kept q (r ∷ rs) =
    let a = times_of q r in
    let b = times_kept q rs in
    omega (arith, a, b)

before_next : (count : ℕ) (places : List ℕ) → BeginsFrom (suc count) places → IsBefore count places
before_next count [] begins = tt
before_next count (place ∷ places) begins = omega (arith, begins)

next_from : (count : ℕ) (places : List ℕ) → IsBefore count places → BeginsFrom (suc count) places
next_from count [] before = tt
next_from count (place ∷ places) before = omega (arith, before)

from_start : (places : List ℕ) → BeginsFrom zero places
from_start [] = tt
from_start (place ∷ places) = omega arith

pub ascend_below : (count : ℕ) (places : List ℕ) → BeginsFrom count places → Ascend places → Ascend (places_below count ++ places)
ascend_below zero places begins ascends = ascends
ascend_below (suc count) places begins ascends =
    subst Ascend (sym (append_assoc (places_below count) (count ∷ []) places))
    (ascend_below count (count ∷ places) (omega arith) (before_next count places begins, ascends))

pub below_ascend : (count : ℕ) (places : List ℕ) → Ascend (places_below count ++ places) → BeginsFrom count places × Ascend places
below_ascend zero places ascends = (from_start places, ascends)
below_ascend (suc count) places ascends =
    let both = below_ascend count (count ∷ places) (subst Ascend (append_assoc (places_below count) (count ∷ []) places) ascends) in
    (next_from count places both.1.0, both.1.1)

pub kept_ascend : (rs : List Receipt) → AllAscend (map places_of rs) → AllAscend (map kept_places rs)
kept_ascend [] all = tt
kept_ascend (r ∷ rs) all = ((below_ascend r.sealed.before (kept_places r) all.0).1, kept_ascend rs all.1)

pub too_many : (first count : ℕ) (lists : List (List ℕ)) → count < first → EachOnceFrom first count lists → ⊥
too_many first count lists less once =
    let a = once count in
    let b = below count first less in
    let c = not_below count count (omega arith) in
    omega (arith, a, b, c)

pub ascend_of : (r : Receipt) (first : ℕ) (kept : List ℕ) → first ≡ r.sealed.before → kept ≡ kept_places r → BeginsFrom first kept → Ascend kept →
    Ascend (places_of r)
ascend_of r first kept is kept_is begins ascends =
    ascend_below r.sealed.before (kept_places r) (subst (λ (n : ℕ). BeginsFrom n (kept_places r)) is (subst (BeginsFrom first) kept_is begins))
    (subst Ascend kept_is ascends)

pub of_ascend : (r : Receipt) (first : ℕ) (kept : List ℕ) → first ≡ r.sealed.before → kept ≡ kept_places r → Ascend (places_of r) →
    BeginsFrom first kept × Ascend kept
of_ascend r first kept is kept_is ascends =
    let both = below_ascend r.sealed.before (kept_places r) ascends in (
      subst (BeginsFrom first) (sym kept_is) (subst (λ (n : ℕ). BeginsFrom n (kept_places r)) (sym is) both.0),
      subst Ascend (sym kept_is) both.1,
    )

-- the receipts before these have the places below a number as a range, once
abbrev pub HaveFirst : ℕ → List Receipt → List Receipt → Type 0
HaveFirst first all rs =
    (q : ℕ) → times_in_all q (map places_of all) + times_in_all q (map kept_places rs)
    ≡ times_in_all q (map places_of rs) + times_in_all q (map kept_places all) + one_if (nat_lt q first)

-- one of two numbers, the other being 0
abbrev pub OnlyOne : ℕ → ℕ → ℕ → Type 0
OnlyOne first before one = ((before ≡ 0) × (one ≡ first)) ⊎ ((first ≡ 0) × (one ≡ before))

ones : (q first before one : ℕ) → OnlyOne first before one → one_if (nat_lt q one) ≡ one_if (nat_lt q first) + one_if (nat_lt q before)
ones q first before one (inl is) =
    let a = ap (λ (n : ℕ). one_if (nat_lt q n)) is.1 in
    let b = ap (λ (n : ℕ). one_if (nat_lt q n)) is.0 in
    let c = not_below q 0 (omega arith) in
    omega (arith, a, b, c)
ones q first before one (inr is) =
    let a = ap (λ (n : ℕ). one_if (nat_lt q n)) is.1 in
    let b = ap (λ (n : ℕ). one_if (nat_lt q n)) is.0 in
    let c = not_below q 0 (omega arith) in
    omega (arith, a, b, c)

pub have_more : (first before one : ℕ) (all later : List Receipt) (r : Receipt) → HaveFirst first all (r ∷ later) → before ≡ r.sealed.before →
    OnlyOne first before one → HaveFirst one all later
have_more first before one all later r have is either = λ q.
    let a = have q in
    let b = times_of q r in
    let c = ones q first before one either in
    let d = ap (λ (n : ℕ). one_if (nat_lt q n)) is in
    omega (arith, a, b, c, d)

-- if two have the first place, the places are not each once
pub two_first : (first before count : ℕ) (all later : List Receipt) (r : Receipt) → HaveFirst first all (r ∷ later) → before ≡ r.sealed.before →
    0 < first → 0 < before → EachOnce count (map places_of all) → ⊥
two_first first before count all later r have is some more once =
    let a = have 0 in
    let b = times_of 0 r in
    let c = times_kept 0 later in
    let d = below 0 first some in
    let e = below 0 before more in
    let f = ap (λ (n : ℕ). one_if (nat_lt 0 n)) is in
    let g = once 0 in
    let h = at_most (nat_lt 0 count) in
    omega (arith, a, b, c, d, e, f, g, h)

split : {X : Type 0} (receipt : X → Receipt) (first i : ℕ) (all : List X) (x : X) → HaveFirst first (map receipt all) (map receipt (drop i all)) →
    i < length all → x ≡ get_or all i x → HaveFirst first (map receipt all) (receipt x ∷ map receipt (drop (i + 1) all))
split receipt first i all x have within at =
    subst (λ later. HaveFirst first (map receipt all) (map receipt later)) (drop_more all i x within ∙ ap (λ y. y ∷ drop (i + 1) all) (sym at)) have

pub have_left : {X : Type 0} (receipt : X → Receipt) (first before one i : ℕ) (all : List X) (x : X) →
    HaveFirst first (map receipt all) (map receipt (drop i all)) → i < length all → x ≡ get_or all i x → before ≡ (receipt x).sealed.before →
    OnlyOne first before one → HaveFirst one (map receipt all) (map receipt (drop (i + 1) all))
have_left receipt first before one i all x have within at =
    have_more first before one (map receipt all) (map receipt (drop (i + 1) all)) (receipt x) (split receipt first i all x have within at)

pub two_left : {X : Type 0} (receipt : X → Receipt) (first before count i : ℕ) (all : List X) (x : X) →
    HaveFirst first (map receipt all) (map receipt (drop i all)) → i < length all → x ≡ get_or all i x → before ≡ (receipt x).sealed.before →
    0 < first → 0 < before → EachOnce count (map places_of (map receipt all)) → ⊥
two_left receipt first before count i all x have within at =
    two_first first before count (map receipt all) (map receipt (drop (i + 1) all)) (receipt x) (split receipt first i all x have within at)

pub none_at_all : {X : Type 0} (o : Option ℕ) → X → IfNone o X
none_at_all None x = x
none_at_all (Some n) x = tt
