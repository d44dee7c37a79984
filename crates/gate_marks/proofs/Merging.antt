-- Merged places: one is passed, none can be, or nothing is left.
-- Used by the functions of `merged_marks`.
use Rattle.std.proofs.Common.{◌≡◌, ℕ, zero, suc, ◌+◌, ◌<◌, ◌≤◌, ◌==◌, ◌⊎◌, inl, inr, nat_lt, Bool, true, false, List, [], ◌∷◌, ◌++◌, length, get_or, take, map, refl, sym, ap, subst, ◌∙◌, arith}
use Rattle.std.specs.Prelude.{slice_set}
use Rattle.std.proofs.lemmas.Bool.{cases_lt, eq-eqb, eqb-true, le-ltb, lt-ltb, ne_eqb}
use Rattle.authority_cache.specs.Calls.{one_if}
use Rattle.gate_history.specs.declared.entry.Entry.{Entry}
use Rattle.gate_marks.specs.Marks.{Receipt, places_of}
use Rattle.gate_marks.specs.Places.{AllAscend, AllEmpty, Ascend, EachOnceFrom, IsNext, IsNextOfNone, Passes, times_in, times_in_all}
use Rattle.gate_marks.specs.Fitting.{EachFits}

pub below : (a b : ℕ) → a < b → one_if (nat_lt a b) ≡ 1
below a b is = ap one_if (lt-ltb a b is)

pub not_below : (a b : ℕ) → b ≤ a → one_if (nat_lt a b) ≡ 0
not_below a b is = ap one_if (le-ltb a b is)

pub at_most : (b : Bool) → one_if b ≤ 1
at_most true = omega arith
at_most false = omega arith

pub next_below : (place p : ℕ) → one_if (nat_lt p (place + 1)) ≡ one_if (nat_lt p place) + one_if (place == p)
next_below place p = by (cases_lt p place) (cases_lt place p)
  where
    by : (p < place) ⊎ (place ≤ p) → (place < p) ⊎ (p ≤ place) → one_if (nat_lt p (place + 1)) ≡ one_if (nat_lt p place) + one_if (place == p)
    by (inl less) (inl more) = absurd (omega (arith, less, more))
    by (inl less) (inr least) =
        let a = below p (place + 1) (omega (arith, less)) in
        let b = below p place less in
        let c = ap one_if (ne_eqb place p (λ is. omega (arith, less, is))) in
        omega (arith, a, b, c)
    by (inr least) (inl more) =
        let a = not_below p (place + 1) (omega (arith, more)) in
        let b = not_below p place least in
        let c = ap one_if (ne_eqb place p (λ is. omega (arith, more, is))) in
        omega (arith, a, b, c)
    by (inr least) (inr most) =
        let a = below p (place + 1) (omega (arith, most)) in
        let b = not_below p place least in
        let c = ap one_if (eq-eqb place p (omega (arith, least, most))) in
        omega (arith, a, b, c)

pub passes_at : (lists : List (List ℕ)) (i : ℕ) (d new : List ℕ) (place : ℕ) → i < length lists → get_or lists i d ≡ place ∷ new →
    Passes place lists (slice_set lists i new)
passes_at [] i d new place within is = absurd (omega (arith, within))
passes_at (places ∷ lists) zero d new place within is = record {
  before = [];
  places = new;
  behind = lists;
  old_is = ap (λ first. first ∷ lists) is;
  new_is = refl;
}
passes_at (places ∷ lists) (suc i) d new place within is =
    let later = passes_at lists i d new place (omega (arith, within)) is in
    record {
      before = places ∷ later.before;
      places = later.places;
      behind = later.behind;
      old_is = ap (λ rest. places ∷ rest) later.old_is;
      new_is = ap (λ rest. places ∷ rest) later.new_is;
    }

pub same_at : (lists : List (List ℕ)) (i : ℕ) (d new : List ℕ) → i < length lists → new ≡ get_or lists i d → slice_set lists i new ≡ lists
same_at [] i d new within is = absurd (omega (arith, within))
same_at (places ∷ lists) zero d new within is = ap (λ first. first ∷ lists) is
same_at (places ∷ lists) (suc i) d new within is = ap (λ rest. places ∷ rest) (same_at lists i d new (omega (arith, within)) is)

one_more : (place : ℕ) (lists : List (List ℕ)) (i : ℕ) (d : List ℕ) → i < length lists → (IsNext place (get_or lists i d) → ⊥) →
    IsNextOfNone place (take i lists) → IsNextOfNone place (take (suc i) lists)
one_more place [] i d within other none = absurd (omega (arith, within))
one_more place (places ∷ lists) zero d within other none = (other, tt)
one_more place (places ∷ lists) (suc i) d within other none = (none.0, one_more place lists i d (omega (arith, within)) other none.1)

pub none_more : (place : ℕ) (lists : List (List ℕ)) (i : ℕ) (d : List ℕ) → i < length lists → (IsNext place (get_or lists i d) → ⊥) →
    IsNextOfNone place (take i lists) → IsNextOfNone place (take (i + 1) lists)
none_more place lists i d within other none =
    let n : suc i ≡ i + 1 = omega arith in
    subst (λ (n : ℕ). IsNextOfNone place (take n lists)) n (one_more place lists i d within other none)

times-append : (q : ℕ) (xs ys : List (List ℕ)) → times_in_all q (xs ++ ys) ≡ times_in_all q xs + times_in_all q ys
times-append q [] ys = omega arith
times-append q (x ∷ xs) ys = let e = times-append q xs ys in omega (arith, e)

pub passes_times : (place : ℕ) (old new : List (List ℕ)) → Passes place old new → (q : ℕ) →
    times_in_all q old ≡ one_if (place == q) + times_in_all q new
passes_times place old new p q =
    let a = ap (times_in_all q) p.old_is ∙ times-append q p.before ((place ∷ p.places) ∷ p.behind) in
    let b = ap (times_in_all q) p.new_is ∙ times-append q p.before (p.places ∷ p.behind) in
    omega (arith, a, b)

loses : (place : ℕ) (places : List ℕ) (before behind : List (List ℕ)) → AllAscend (before ++ (place ∷ places) ∷ behind) → AllAscend (before ++ places ∷ behind)
loses place places [] behind all = (all.0.1, all.1)
loses place places (b ∷ before) behind all = (all.0, loses place places before behind all.1)

pub passes_ascend : (place : ℕ) (old new : List (List ℕ)) → Passes place old new → AllAscend old → AllAscend new
passes_ascend place old new p all = subst AllAscend (sym p.new_is) (loses place p.places p.before p.behind (subst AllAscend p.old_is all))

above : (p q : ℕ) (places : List ℕ) → Ascend (p ∷ places) → 0 < times_in q places → p < q
above p q [] all there = absurd (omega (arith, there))
above p q (next ∷ places) all there = by (next == q) refl (above next q places all.1)
  where
    by : (b : Bool) → (next == q) ≡ b → (0 < times_in q places → next < q) → p < q
    by true is rest = let e = eqb-true next q is in let l = all.0 in omega (arith, e, l)
    by false is rest =
        let e = ap one_if is in
        let l = rest (omega (arith, there, e)) in
        let f = all.0 in
        omega (arith, l, f)

-- if a place is left that no list begins with, an earlier one is left
earlier : (place : ℕ) (places : List ℕ) → Ascend places → 0 < times_in place places → (IsNext place places → ⊥) →
    (h : ℕ) × ((h < place) × (0 < times_in h places))
earlier place [] all there other = absurd (omega (arith, there))
earlier place (p ∷ places) all there other =
    let e = ap one_if (ne_eqb p place (λ is. other (sym is))) in
    let s = ap one_if (eq-eqb p p refl) in
    (p, (above p place places all (omega (arith, there, e)), omega (arith, s)))

earlier_of_all : (place : ℕ) (lists : List (List ℕ)) → AllAscend lists → 0 < times_in_all place lists → IsNextOfNone place lists →
    (h : ℕ) × ((h < place) × (0 < times_in_all h lists))
earlier_of_all place [] all there none = absurd (omega (arith, there))
earlier_of_all place (places ∷ lists) all there none =
    by (cases_lt 0 (times_in place places)) (λ later. earlier_of_all place lists all.1 later none.1)
  where
    by : (0 < times_in place places) ⊎ (times_in place places ≤ 0) →
        (0 < times_in_all place lists → (h : ℕ) × ((h < place) × (0 < times_in_all h lists))) →
        (h : ℕ) × ((h < place) × (0 < times_in_all h (places ∷ lists)))
    by (inl here) rest =
        let e = earlier place places all.0 here none.0 in
        let l = e.1.1 in
        (e.0, (e.1.0, omega (arith, l)))
    by (inr not_here) rest =
        let e = rest (omega (arith, there, not_here)) in
        let l = e.1.1 in
        (e.0, (e.1.0, omega (arith, l)))

-- if a place can't be passed, the places are not each once
pub stuck : (first count place : ℕ) (old left : List (List ℕ)) → place < count → AllAscend left →
    ((q : ℕ) → times_in_all q old + one_if (nat_lt q first) ≡ times_in_all q left + one_if (nat_lt q place)) → IsNextOfNone place left →
    EachOnceFrom first count old → ⊥
stuck first count place old left less all times none once =
    let a = times place in
    let b = once place in
    let c = below place count less in
    let d = not_below place place (omega arith) in
    let e = earlier_of_all place left all (omega (arith, a, b, c, d)) none in
    let f = times e.0 in
    let g = once e.0 in
    let h = below e.0 place e.1.0 in
    let i = at_most (nat_lt e.0 count) in
    let j = e.1.1 in
    omega (arith, f, g, h, i, j)

nothing : (lists : List (List ℕ)) → AllEmpty lists → (q : ℕ) → times_in_all q lists ≡ 0
nothing [] all q = refl
nothing (places ∷ lists) all q =
    let a = ap (times_in q) all.0 in
    let b = nothing lists all.1 q in
    omega (arith, a, b)

empty : (lists : List (List ℕ)) → ((q : ℕ) → times_in_all q lists ≡ 0) → AllEmpty lists
empty [] none = tt
empty ([] ∷ lists) none = (refl, empty lists (λ q. let e = none q in omega (arith, e)))
empty ((p ∷ places) ∷ lists) none =
    let e = none p in
    let s = ap one_if (eq-eqb p p refl) in
    absurd (omega (arith, e, s))

-- after the last place, they are each once exactly if nothing is left
pub ended : (first count place : ℕ) (old left : List (List ℕ)) → place ≤ count → count ≤ place →
    ((q : ℕ) → times_in_all q old + one_if (nat_lt q first) ≡ times_in_all q left + one_if (nat_lt q place)) →
    (AllEmpty left → EachOnceFrom first count old) × (EachOnceFrom first count old → AllEmpty left)
ended first count place old left most least times =
    let is : place ≡ count = omega (arith, most, least) in
    let so : (q : ℕ) → times_in_all q old + one_if (nat_lt q first) ≡ times_in_all q left + one_if (nat_lt q count) =
    subst (λ (n : ℕ). (q : ℕ) → times_in_all q old + one_if (nat_lt q first) ≡ times_in_all q left + one_if (nat_lt q n)) is times in (
      (λ all q. let a = nothing left all q in let b = so q in omega (arith, a, b)),
      (λ once. empty left (λ q. let a = once q in let b = so q in omega (arith, a, b))),
    )

pub fit_ascends : (sealed : ℕ) (entries : List Entry) (rs : List Receipt) → EachFits sealed entries rs → AllAscend (map places_of rs)
fit_ascends sealed entries [] fits = tt
fit_ascends sealed entries (r ∷ rs) fits = (fits.0.ascend, fit_ascends sealed entries rs fits.1)
