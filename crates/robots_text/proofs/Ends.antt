-- Octets with one more at the end: trailing blanks go, and octets after the last line end.
-- Used by `without_trailing` and `whole_lines`.
use Rattle.std.proofs.Common.{◌≡◌, ℕ, Bool, true, false, List, [], ◌∷◌, ◌++◌, refl, ap, arith}
use Rattle.std.specs.Prelude.{◌||◌, ◌&&◌}
use Rattle.std.specs.List.{list_any, list_all}
use Rattle.robots_text.specs.Lines.{is_line_end, whole_lines}
use Rattle.robots_text.specs.Records.{is_blank, without_trailing}

any_plain : (p : ℕ → Bool) (xs : List ℕ) (x : ℕ) → p x ≡ false → list_any p (xs ++ x ∷ []) ≡ list_any p xs
any_plain p [] x e = rw e refl
any_plain p (c ∷ xs) x e = ap (λ b. p c || b) (any_plain p xs x e)

pub any_last : (p : ℕ → Bool) (xs : List ℕ) (x : ℕ) → p x ≡ true → list_any p (xs ++ x ∷ []) ≡ true
any_last p [] x e = rw e refl
any_last p (c ∷ xs) x e = rw (any_last p xs x e) (grind arith)

all_more : (p : ℕ → Bool) (xs : List ℕ) (x : ℕ) → p x ≡ true → list_all p (xs ++ x ∷ []) ≡ list_all p xs
all_more p [] x e = rw e refl
all_more p (c ∷ xs) x e = ap (λ b. p c && b) (all_more p xs x e)

all_last : (p : ℕ → Bool) (xs : List ℕ) (x : ℕ) → p x ≡ false → list_all p (xs ++ x ∷ []) ≡ false
all_last p [] x e = rw e refl
all_last p (c ∷ xs) x e = rw (all_last p xs x e) (grind arith)

pub whole_plain : (xs : List ℕ) (x : ℕ) → is_line_end x ≡ false → whole_lines (xs ++ x ∷ []) ≡ whole_lines xs
whole_plain [] x e = rw e refl
whole_plain (c ∷ xs) x e = rw (any_plain is_line_end xs x e) (rw (whole_plain xs x e) refl)

pub whole_end : (xs : List ℕ) (x : ℕ) → is_line_end x ≡ true → whole_lines (xs ++ x ∷ []) ≡ xs ++ x ∷ []
whole_end [] x e = rw e refl
whole_end (c ∷ xs) x e = rw (any_last is_line_end (c ∷ xs) x e) (rw (whole_end xs x e) refl)

pub trailing_blank : (xs : List ℕ) (x : ℕ) → is_blank x ≡ true → without_trailing (xs ++ x ∷ []) ≡ without_trailing xs
trailing_blank [] x e = rw e refl
trailing_blank (c ∷ xs) x e = rw (all_more is_blank xs x e) (rw (trailing_blank xs x e) refl)

pub trailing_other : (xs : List ℕ) (x : ℕ) → is_blank x ≡ false → without_trailing (xs ++ x ∷ []) ≡ xs ++ x ∷ []
trailing_other [] x e = rw e refl
trailing_other (c ∷ xs) x e = rw (all_last is_blank (c ∷ xs) x e) (rw (trailing_other xs x e) refl)
