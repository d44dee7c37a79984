-- A walk over the rules for a token keeps the strongest one passed.
-- Used by the walks for the strongest, and by those of `robots_check`.
use Rattle.std.proofs.Common.{◌≡◌, ℕ, Bool, true, false, ◌⊎◌, inl, inr, List, [], ◌∷◌, Contains, refl, sym, ap, ◌∙◌, subst}
use Rattle.std.specs.Prelude.{Option, Some, None}
use Rattle.std.specs.declared.cmp.Ordering.{Ordering}
use Rattle.std.specs.declared.cmp.Ordering.TheVariants.{Less, Equal, Greater}
use Rattle.std.specs.Ordering.{is_lt}
use Rattle.std.proofs.lemmas.Bool.{true≢false, cond-true, cond-false}
use Rattle.std.proofs.lemmas.Cmp.{tied_itself}
use Rattle.std.proofs.lemmas.List.Elements.{All-contains}
use Rattle.path_normal.specs.Normal.{normal_pattern}
use Rattle.path_pattern.specs.Matches.{Matches}
use Rattle.robots_text.specs.Groups.{Ruled, IsRuleFor, AreRulesFor}
use Rattle.robots_text.specs.Records.{Numbered}
use Rattle.robots_text.proofs.CallerLemmas.{behind, entry_of, first_of, none_of}
use Rattle.robots_verdict.specs.declared.weight.Weight.{Weight}
use Rattle.robots_verdict.specs.Strongest.{IsBest, stronger}
use Rattle.robots_verdict.specs.Weights.{falling, is_above, weight_of}
use Rattle.robots_verdict.proofs.Weighing.{falling_total}

-- the pattern of the rule matches the path
abbrev pub Hits : List ℕ → Ruled → Type 0
Hits path ruled = Matches (normal_pattern ruled.pattern) path

-- the weight is not above the best so far
abbrev pub IsNotAbove : Weight → Option Weight → Type 0
IsNotAbove weight None = ⊥
IsNotAbove weight (Some best) = is_above weight best ≡ false

-- the best so far is that of a rule that matches
abbrev pub IsOfOne : List Ruled → List ℕ → Option Weight → Type 0
IsOfOne all path None = Unit {0}
IsOfOne all path (Some best) = (ruled : Ruled) × (Contains all ruled) × (Hits path ruled) × (weight_of ruled ≡ best)

-- these rules are left, and the best of the others is known
pub record IsWalked (path : List ℕ) (all left : List Ruled) (best : Option Weight) : Type 0 where
  pub rest : (ruled : Ruled) → Contains left ruled → Contains all ruled
  pub passed : (ruled : Ruled) → Contains all ruled → Hits path ruled → Contains left ruled ⊎ IsNotAbove (weight_of ruled) best
  pub of_one : IsOfOne all path best

pub start : (path : List ℕ) (all : List Ruled) → IsWalked path all all None
start path all = record { rest = λ ruled stands. stands; passed = λ ruled stands hits. inl stands; of_one = tt }

less : (o : Ordering) → is_lt o ≡ true → o ≡ Less
less Less is = refl
less Equal is = absurd (true≢false (sym is))
less Greater is = absurd (true≢false (sym is))

pub itself : (w : Weight) → is_above w w ≡ false
itself w = ap is_lt (tied_itself falling_total w)

pub through : (w first best : Weight) (is : Bool) → is_above w first ≡ is → is_above w best ≡ false → is_above first best ≡ true → is ≡ false
through w first best true above not up =
    let whole = falling_total.trans w first best (less (falling w first) above) (less (falling first best) up) in
    absurd (true≢false (sym (ap is_lt whole) ∙ not))
through w first best false above not up = refl

first_not_above : (first : Weight) (best : Option Weight) → is_above first (stronger best first) ≡ false
first_not_above first None = itself first
first_not_above first (Some best) = by (is_above first best) refl
  where
    by : (is : Bool) → is_above first best ≡ is → is_above first (stronger (Some best) first) ≡ false
    by true is = subst (λ w. is_above first w ≡ false) (sym (cond-true (is_above first best) first best is)) (itself first)
    by false is = subst (λ w. is_above first w ≡ false) (sym (cond-false (is_above first best) first best is)) is

still_not_above : (w first : Weight) (best : Option Weight) → IsNotAbove w best → is_above w (stronger best first) ≡ false
still_not_above w first None not = absurd not
still_not_above w first (Some best) not = by (is_above first best) refl
  where
    by : (is : Bool) → is_above first best ≡ is → is_above w (stronger (Some best) first) ≡ false
    by true is = subst (λ v. is_above w v ≡ false) (sym (cond-true (is_above first best) first best is)) (through w first best (is_above w first) refl not is)
    by false is = subst (λ v. is_above w v ≡ false) (sym (cond-false (is_above first best) first best is)) not

stronger_of_one : (all : List Ruled) (path : List ℕ) (best : Option Weight) (first : Ruled) → IsOfOne all path best → Contains all first → Hits path first →
    IsOfOne all path (Some (stronger best (weight_of first)))
stronger_of_one all path None first of_one stands hits = (first, stands, hits, refl)
stronger_of_one all path (Some best) first of_one stands hits = by (is_above (weight_of first) best) refl
  where
    by : (is : Bool) → is_above (weight_of first) best ≡ is → IsOfOne all path (Some (stronger (Some best) (weight_of first)))
    by true is = (first, stands, hits, sym (cond-true (is_above (weight_of first) best) (weight_of first) best is))
    by false is = (of_one.0, of_one.1, of_one.2, of_one.3 ∙ sym (cond-false (is_above (weight_of first) best) (weight_of first) best is))

pub pass_over : (path : List ℕ) (all left : List Ruled) (best : Option Weight) (first : Ruled) → (Hits path first → ⊥) →
    IsWalked path all (first ∷ left) best → IsWalked path all left best
pass_over path all left best first misses walked = record {
  rest = λ ruled stands. walked.rest ruled (behind first ruled left stands);
  passed = λ ruled stands hits. elim (walked.passed ruled stands hits) [
    | inl left' ↦ elim (entry_of first ruled left left') [
      | inl is ↦ absurd (misses (subst (Hits path) (sym is) hits))
      | inr rest ↦ inl rest
    ]
    | inr not ↦ inr not
  ];
  of_one = walked.of_one;
}

pub weigh : (path : List ℕ) (all left : List Ruled) (best : Option Weight) (first : Ruled) → Hits path first →
    IsWalked path all (first ∷ left) best → IsWalked path all left (Some (stronger best (weight_of first)))
weigh path all left best first hits walked = record {
  rest = λ ruled stands. walked.rest ruled (behind first ruled left stands);
  passed = λ ruled stands hits'. elim (walked.passed ruled stands hits') [
    | inl left' ↦ elim (entry_of first ruled left left') [
      | inl is ↦ inr (subst (λ r. is_above (weight_of r) (stronger best (weight_of first)) ≡ false) is (first_not_above (weight_of first) best))
      | inr rest ↦ inl rest
    ]
    | inr not ↦ inr (still_not_above (weight_of ruled) (weight_of first) best not)
  ];
  of_one = stronger_of_one all path best first walked.of_one (walked.rest first (first_of first left)) hits;
}

pub walked_all : (lines : List Numbered) (word path : List ℕ) (all : List Ruled) (best : Option Weight) → AreRulesFor lines word all →
    IsWalked path all [] best → IsBest lines word path best
walked_all lines word path all None are walked = λ ruled applies.
    elim (walked.passed ruled (are.every ruled applies.for_token) applies.matches) [
      | inl none ↦ none_of ruled none
      | inr never ↦ never
    ]
walked_all lines word path all (Some best) are walked =
    let one = walked.of_one in (
      one.0,
      record {
        applies = record { for_token = All-contains (IsRuleFor lines word) all one.0 are.each one.1; matches = one.2 };
        strongest = λ other applies. elim (walked.passed other (are.every other applies.for_token) applies.matches) [
          | inl none ↦ absurd (none_of other none)
          | inr not ↦ ap (is_above (weight_of other)) one.3 ∙ not
        ];
      },
      one.3,
    )
