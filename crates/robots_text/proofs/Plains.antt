-- Some element passes a test if an element that passes is there.
-- Used by the crates above, for groups and turns.
use Rattle.std.proofs.Common.{◌≡◌, Bool, true, false, ◌||◌, inl, inr, List, [], ◌∷◌, Contains, ◌∙◌, ap, subst, refl, arith}
use Rattle.std.specs.List.{list_any}
use Rattle.std.proofs.lemmas.Bool.Decides.{nat_tests}
use Rattle.robots_text.proofs.LineEntries.{behind, first_of, none_of, entry_of}

-- some element that passes
pub record Passes {A : Type 0} (test : A → Bool) (xs : List A) : Type 0 where
  pub one : A
  pub stands : Contains xs one
  pub passes : test one ≡ true

pub any_passes : {A : Type 0} (test : A → Bool) (xs : List A) → list_any test xs ≡ true → Passes test xs
any_passes test [] is = absurd cc
any_passes test (x ∷ xs) is = step (test x) refl (λ rest. any_passes test xs rest)
  where
    step : (b : Bool) → test x ≡ b → (list_any test xs ≡ true → Passes test xs) → Passes test (x ∷ xs)
    step true passes others = record { one = x; stands = first_of x xs; passes = passes }
    step false fails others =
        let found = others (subst (λ b. (b || list_any test xs) ≡ true) fails is) in
        record { one = found.one; stands = behind x found.one xs found.stands; passes = found.passes }

pub passes_any : {A : Type 0} (test : A → Bool) (xs : List A) (y : A) → Contains xs y → test y ≡ true → list_any test xs ≡ true
passes_any test [] y stands passes = absurd (none_of y stands)
passes_any test (x ∷ xs) y stands passes = elim (entry_of x y xs stands) [
  | inl is ↦ (let here : test x ≡ true = ap test is ∙ passes in grind (arith, nat_tests))
  | inr rest ↦ (let there = passes_any test xs y rest passes in grind (arith, nat_tests))
]
