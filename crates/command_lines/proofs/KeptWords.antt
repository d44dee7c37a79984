-- What is left of words when one more is taken.
-- Used by `LineWords::next` and `without`.
use Rattle.std.proofs.Common.{◌≡◌, ◌<◌, ◌-◌, ◌+◌, ◌++◌, ◌∙◌, ℕ, List, [], ◌∷◌, Option, None, Some, length, take, drop, refl, sym, ap, Bor, arith}
use Rattle.std.proofs.lemmas.List.{drop-drop, take_all}
use Rattle.command_lines.specs.LineWords.{texts_of}
use Rattle.line_text.specs.Words.{GivesWord}

pub one_less : (front : List (Bor (List ℕ))) (behind all : List (List ℕ)) (taken : ℕ) → 0 < length front →
    drop taken all ≡ texts_of front ++ behind → drop (taken + 1) all ≡ texts_of (take (length front - 1) (drop 1 front)) ++ behind
one_less [] behind all taken some is = absurd (omega (arith, some))
one_less (word ∷ front) behind all taken some is =
    sym (drop-drop 1 taken all) ∙ ap (drop 1) is
    ∙ ap (λ (l : List (Bor (List ℕ))). texts_of l ++ behind) (sym (take_all (length (word ∷ front) - 1) front (omega arith)))

given : (old : List (List ℕ)) (word : Option (Bor (List ℕ))) (new : List (List ℕ)) → GivesWord old word new → new ≡ drop 1 old
given old None new gives = gives.1 ∙ sym (ap (drop 1) gives.0)
given old (Some word) new gives = sym (ap (drop 1) gives)

pub one_more_gone : (all old : List (List ℕ)) (count : ℕ) (word : Option (Bor (List ℕ))) (new : List (List ℕ)) → old ≡ drop count all →
    GivesWord old word new → new ≡ drop (count + 1) all
one_more_gone all old count word new is gives = given old word new gives ∙ ap (drop 1) is ∙ drop-drop 1 count all
