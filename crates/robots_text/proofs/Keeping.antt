-- One octet more than the limit decides what is kept of an input.
-- Used by the readers of robots texts.
use Rattle.std.proofs.Common.{◌≡◌, ◌<◌, ◌+◌, ◌⊎◌, inl, inr, ℕ, Bool, true, false, List, ◌++◌, length, take, append-nil, length-append, Option, None, Some, sym, refl, ap, ◌∙◌, arith}
use Rattle.std.specs.Prelude.{nat_le}
use Rattle.std.specs.Io.KnownBytes.{Consumes, IsAtEnd}
use Rattle.std.proofs.lemmas.Bool.{cond-false}
use Rattle.std.proofs.lemmas.Bool.Decides.{nat_tests}
use Rattle.std.proofs.lemmas.List.{take-append-le}
use Rattle.robots_text.specs.Lines.{KeepsSame, kept, text_limit, whole_lines}

not_within : (n limit : ℕ) → limit < n → nat_le n limit ≡ false
not_within n limit over = grind (arith, nat_tests)

kept_over : (body : List ℕ) → text_limit < length body → kept body ≡ whole_lines (take text_limit body)
kept_over body over = cond-false _ _ _ (not_within (length body) text_limit over)

longer : (limit : ℕ) (body more : List ℕ) → limit < length body → limit < length (body ++ more)
longer limit body more over = omega (arith, length-append body more, over)

front_same : (limit : ℕ) (body more : List ℕ) → limit < length body → take limit body ≡ take limit (body ++ more)
front_same limit body more over = sym (take-append-le limit body more (omega (arith, over)))

kept_of_more : (body more : List ℕ) → text_limit < length body → kept body ≡ kept (body ++ more)
kept_of_more body more over =
    kept_over body over ∙ ap whole_lines (front_same text_limit body more over) ∙ sym (kept_over (body ++ more) (longer text_limit body more over))

either : (b : Bool) → (b ≡ true) ⊎ (b ≡ false)
either true = inl refl
either false = inr refl

below_or_over : (n limit : ℕ) → (n < limit + 1) ⊎ (limit < n)
below_or_over n limit = elim (either (nat_le n limit)) [ inl e ↦ inl (grind (arith, nat_tests)) | inr e ↦ inr (grind (arith, nat_tests)) ]

pub same_kept : (old new : Option (List ℕ)) (body : List ℕ) → Consumes old new body → (length body < text_limit + 1 → IsAtEnd new) → KeepsSame old body
same_kept None new body took all = tt
same_kept (Some input) None body took all = absurd took
same_kept (Some input) (Some rest) body took all = elim (below_or_over (length body) text_limit) [
  | inl less ↦ ap kept (sym (took ∙ ap (λ r. body ++ r) (all less) ∙ append-nil body))
  | inr over ↦ kept_of_more body rest over ∙ ap kept (sym took)
]
