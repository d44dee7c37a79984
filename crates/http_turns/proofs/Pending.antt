-- What waits to be sent, before and after a step.
-- Used by `HttpTalk`.
use Rattle.std.specs.Prelude.{◌≡◌, ◌↔◌, ◌++◌, ◌<◌, Bool, false, IsTrue, ℕ, List, drop, length, take}
use Rattle.std.proofs.Common.{ap, arith, sym, ◌∙◌}
use Rattle.std.proofs.lemmas.List.{nil_from_length, take-append-drop}
use Rattle.turns.specs.Exchanges.{Grows, IsFrontOf}

-- where nothing waited, whatever waits now has come behind it
pub grows_of_none : (old new : List ℕ) → ¬ (0 < length old) → Grows old new
grows_of_none old new none = (new, ap (λ xs. xs ++ new) (sym (nil_from_length old (omega arith))))

-- the first octets of a list begin it
pub begins : (front all : List ℕ) → take (length front) all ≡ front → IsFrontOf front all
begins front all is =
    (drop (length front) all, sym (ap (λ xs. xs ++ drop (length front) all) (sym is) ∙ take-append-drop (length front) all))

-- what a test that failed tells does not hold
pub fails : (b : Bool) (P : Type 0) → b ≡ false → (IsTrue b ↔ P) → ¬ P
fails b P off tells p = let on = tells.1 p in grind (arith, off, on)
