-- Marks of sealed entries: what is kept of the first ones, and what is left.
-- Used by `mark` and by `Desk::condense`.
use Rattle.std.proofs.Common.{◌≡◌, ℕ, zero, suc, ◌+◌, ◌<◌, ◌≤◌, List, [], ◌∷◌, ◌++◌, length, get_or, take, drop, map, Result, Ok, Err, OnOk, OnErr, refl, sym, ap, subst, ◌∙◌, arith}
use Rattle.std.proofs.lemmas.List.{append-nil, length-append, length-map, take-append-drop}
use Rattle.gate_marks.specs.declared.mark.Mark.{Mark}
use Rattle.gate_marks.specs.Marks.{AreSealed, SealedView, sealed_with, starts_in}

one_more : (count : ℕ) (ms : List Mark) (i : ℕ) (d : Mark) → i < length ms → (get_or ms i d).place < count →
    AreSealed count (map (λ m. m.place) (take i ms)) → AreSealed count (map (λ m. m.place) (take (suc i) ms))
one_more count [] i d within less so = absurd (omega (arith, within))
one_more count (m ∷ ms) zero d within less so = (less, tt)
one_more count (m ∷ ms) (suc i) d within less so = (so.0, one_more count ms i d (omega (arith, within)) less so.1)

pub below_more : (count : ℕ) (ms : List Mark) (i : ℕ) (d : Mark) → i < length ms → (get_or ms i d).place < count →
    AreSealed count (map (λ m. m.place) (take i ms)) → AreSealed count (map (λ m. m.place) (take (i + 1) ms))
below_more count ms i d within less so =
    let n : suc i ≡ i + 1 = omega arith in
    subst (λ (n : ℕ). AreSealed count (map (λ m. m.place) (take n ms))) n (one_more count ms i d within less so)

starts-append : (xs ys : List Mark) → starts_in (xs ++ ys) ≡ starts_in xs + starts_in ys
starts-append [] ys = omega arith
starts-append (x ∷ xs) ys = let e = starts-append xs ys in omega (arith, e)

-- what was taken in: the first marks, or none
pub record TakenIn (count : ℕ) (s s2 : SealedView) (ms ms2 : List Mark) : Type 0 where
  pub first : List Mark
  pub were_sealed : AreSealed count (map (λ m. m.place) first)
  pub marks_are : ms ≡ first ++ ms2
  pub sealed_are : s2 ≡ sealed_with s first

pub taken_in : {E : Type 0} (r : Result (Unit {0}) E) (count n : ℕ) (s s2 : SealedView) (ms ms2 : List Mark) →
    OnOk r ((ms2 ≡ drop n ms) × (s2 ≡ sealed_with s (take n ms))) → OnErr r ((ms2 ≡ ms) × (s2 ≡ s)) →
    AreSealed count (map (λ m. m.place) (take n ms)) → TakenIn count s s2 ms ms2
taken_in (Ok done) count n s s2 ms ms2 ok err below = record {
  first = take n ms;
  were_sealed = below;
  marks_are = sym (take-append-drop n ms) ∙ ap (λ rest. take n ms ++ rest) (sym ok.0);
  sealed_are = ok.1;
}
taken_in (Err refused) count n s s2 ms ms2 ok err below =
    let none : starts_in [] ≡ 0 = refl in
    let starts : s.starts ≡ s.starts + 0 = omega arith in
    record {
      first = [];
      were_sealed = tt;
      marks_are = sym err.0;
      sealed_are = err.1 ∙ (λ i. record { before = s.before; places = sym (append-nil s.places) i; starts = starts i; handed = s.handed });
    }

pub keeps_count : (count : ℕ) (s s2 : SealedView) (ms ms2 : List Mark) → TakenIn count s s2 ms ms2 →
    (length s2.places + length ms2 ≡ length s.places + length ms) × (s2.starts + starts_in ms2 ≡ s.starts + starts_in ms) × (length ms2 ≤ length ms)
keeps_count count s s2 ms ms2 taken =
    let kept = ap (λ (s : SealedView). length s.places) taken.sealed_are in
    let a = length-append s.places (map (λ m. m.place) taken.first) in
    let b = length-map taken.first (λ (m : Mark). m.place) in
    let c = ap length taken.marks_are ∙ length-append taken.first ms2 in
    let d = ap starts_in taken.marks_are ∙ starts-append taken.first ms2 in
    let e = ap (λ (s : SealedView). s.starts) taken.sealed_are in
    (omega (arith, kept, a, b, c), omega (arith, d, e), omega (arith, c))
