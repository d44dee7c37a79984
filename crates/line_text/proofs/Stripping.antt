-- The rest of a text after a row of fronts.
-- Used by the answers of all that compares a text with a row.
use Rattle.std.proofs.Common.{◌≡◌, ◌≢◌, ◌<◌, ◌≤◌, ◌+◌, ◌==◌, ℕ, suc, Bool, false, arith, IsTrue, length-append, List, [], ◌∷◌, ◌++◌, length, take, drop, get_or, flat_map, ap, sym, ◌∙◌, append_assoc, append-nil}
use Rattle.std.proofs.lemmas.Bool.{true≢false}
use Rattle.std.proofs.lemmas.Bool.Decides.{nat_tests}
use Rattle.std.proofs.lemmas.List.{append_cancel_left, take_all}
use Rattle.line_text.proofs.Pushing.{cut_at}

pub row_lacks : {X : Type 0} (f : X → List ℕ) (xs : List X) (i : ℕ) (d : X) (text rest : List ℕ) → i < length xs →
    text ≡ flat_map f (take i xs) ++ rest → ((behind : List ℕ) → rest ≢ f (get_or xs i d) ++ behind) →
    (behind : List ℕ) → text ≢ flat_map f xs ++ behind
row_lacks f xs i d text rest within before lacks behind is =
    let later : List ℕ = flat_map f (drop (suc i) xs) in
    lacks (later ++ behind) (append_cancel_left (flat_map f (take i xs)) rest (f (get_or xs i d) ++ (later ++ behind))
    (sym before ∙ is ∙ ap (λ l. l ++ behind) (cut_at f xs i d within)
    ∙ append_assoc (flat_map f (take i xs)) (f (get_or xs i d) ++ later) behind
    ∙ ap (λ l. flat_map f (take i xs) ++ l) (append_assoc (f (get_or xs i d)) later behind)))

pub row_whole : {X : Type 0} (f : X → List ℕ) (xs : List X) (i : ℕ) (text rest : List ℕ) (empty : Bool) → length xs ≤ i →
    text ≡ flat_map f (take i xs) ++ rest → empty ≡ (length rest == 0) →
    (IsTrue empty → text ≡ flat_map f xs) × (text ≡ flat_map f xs → IsTrue empty)
row_whole f xs i text [] empty all found none = (
  λ _. found ∙ append-nil (flat_map f (take i xs)) ∙ ap (flat_map f) (take_all i xs all),
  λ _. none,
)
row_whole f xs i text (x ∷ rest) empty all found none =
    let some : (length (x ∷ rest) == 0) ≡ false = grind (arith, nat_tests) in (
      λ is. absurd (true≢false (sym is ∙ none ∙ some)),
      λ is. absurd (longer (sym is ∙ found ∙ ap (λ l. flat_map f l ++ (x ∷ rest)) (take_all i xs all))),
    )
  where
    longer : flat_map f xs ≡ flat_map f xs ++ (x ∷ rest) → ⊥
    longer is = let e = ap length is in omega (arith, e, length-append (flat_map f xs) (x ∷ rest))
