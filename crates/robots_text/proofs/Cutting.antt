-- How the lines of a text follow from its first line.
-- Used by `cut_line`, and by the law on lines.
use Rattle.std.proofs.Common.{◌≡◌, ◌<◌, ℕ, suc, Bool, true, false, List, [], ◌∷◌, length, take, drop, sym, refl, ap, ◌∙◌, subst, arith, ◌⊎◌, inl, inr}
use Rattle.std.specs.Prelude.{◌==◌, ◌||◌}
use Rattle.std.specs.List.{position_or_len, before_first, onto_first}
use Rattle.std.proofs.lemmas.Bool.Decides.{nat_tests}
use Rattle.robots_text.specs.Cut.{behind_end}
use Rattle.robots_text.specs.Lines.{is_line_end, lines_from}
use Rattle.robots_text.specs.Octets.{carriage_return, line_feed}

pub tells : (b : Bool) → (b ≡ true) ⊎ (b ≡ false)
tells true = inl refl
tells false = inr refl

pub is_number : (a n : ℕ) → (a == n) ≡ true → a ≡ n
is_number a n e = grind (arith, nat_tests)

pub plain_parts : (a b : Bool) → (a || b) ≡ false → (a ≡ false) × (b ≡ false)
plain_parts true b e = absurd (grind arith)
plain_parts false b e = (refl, e)

pub second : (a b : Bool) → (a || b) ≡ true → a ≡ false → b ≡ true
second true b e other = absurd (grind arith)
second false b e other = e

-- LF after CR ends nothing; otherwise the lines are as written
pub behind_cr : (text : List ℕ) → lines_from true text ≡ lines_from false (behind_end (carriage_return ∷ text))
behind_cr [] = refl
behind_cr (c ∷ text) = elim (tells (c == line_feed)) [
  | inl e ↦ subst (λ d. lines_from true (d ∷ text) ≡ lines_from false (behind_end (carriage_return ∷ d ∷ text))) (sym (is_number c line_feed e)) refl
  | inr e ↦ rw e (rw e refl)
]

pub plain_octet : (c : ℕ) (text : List ℕ) → is_line_end c ≡ false → lines_from false (c ∷ text) ≡ onto_first c (lines_from false text)
plain_octet c text e =
    let parts = plain_parts (c == carriage_return) (c == line_feed) e in
    rw parts.0 (rw parts.1 refl)

pub behind_lf : (text : List ℕ) → behind_end (line_feed ∷ text) ≡ text
behind_lf [] = refl
behind_lf (c ∷ text) = refl

pub end_octet : (c : ℕ) (text : List ℕ) → is_line_end c ≡ true → lines_from false (c ∷ text) ≡ [] ∷ lines_from false (behind_end (c ∷ text))
end_octet c text e = elim (tells (c == carriage_return)) [
  | inl cr ↦ subst (λ d. lines_from false (d ∷ text) ≡ [] ∷ lines_from false (behind_end (d ∷ text))) (sym (is_number c carriage_return cr)) (ap (λ l. [] ∷ l) (behind_cr text))
  | inr other ↦ (let lf : c ≡ line_feed = is_number c line_feed (second (c == carriage_return) (c == line_feed) e other) in
      subst (λ d. lines_from false (d ∷ text) ≡ [] ∷ lines_from false (behind_end (d ∷ text))) (sym lf) (ap (λ l. [] ∷ lines_from false l) (sym (behind_lf text))))
]

first_len : (c : ℕ) (text : List ℕ) → is_line_end c ≡ false → position_or_len is_line_end (c ∷ text) ≡ suc (position_or_len is_line_end text)
first_len c text e = rw e (omega arith)

no_len : (c : ℕ) (text : List ℕ) → is_line_end c ≡ true → position_or_len is_line_end (c ∷ text) ≡ 0
no_len c text e = rw e refl

pub first_at : (text : List ℕ) → 0 < length text → lines_from false text ≡ before_first is_line_end text ∷ lines_from false (behind_end (drop (position_or_len is_line_end text) text))
first_at [] some = absurd (omega (arith, some))
first_at (c ∷ []) some = elim (tells (is_line_end c)) [
  | inl e ↦ subst (λ n. lines_from false (c ∷ []) ≡ take n (c ∷ []) ∷ lines_from false (behind_end (drop n (c ∷ [])))) (sym (no_len c [] e)) (end_octet c [] e)
  | inr e ↦ subst (λ n. lines_from false (c ∷ []) ≡ take n (c ∷ []) ∷ lines_from false (behind_end (drop n (c ∷ [])))) (sym (first_len c [] e)) (plain_octet c [] e)
]
first_at (c ∷ d ∷ text) some = elim (tells (is_line_end c)) [
  | inl e ↦ subst (λ n. lines_from false (c ∷ d ∷ text) ≡ take n (c ∷ d ∷ text) ∷ lines_from false (behind_end (drop n (c ∷ d ∷ text)))) (sym (no_len c (d ∷ text) e)) (end_octet c (d ∷ text) e)
  | inr e ↦ subst (λ n. lines_from false (c ∷ d ∷ text) ≡ take n (c ∷ d ∷ text) ∷ lines_from false (behind_end (drop n (c ∷ d ∷ text)))) (sym (first_len c (d ∷ text) e))
      (plain_octet c (d ∷ text) e ∙ ap (onto_first c) (first_at (d ∷ text) (omega arith)))
]
