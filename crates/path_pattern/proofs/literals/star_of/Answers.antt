-- A pattern is cut at its first wildcard in one way.
use Rattle.std.proofs.Common.{◌≡◌, ◌==◌, ◌++◌, List, ℕ, false, [], ◌∷◌, sym, subst, ◌∙◌}
use Rattle.std.proofs.lemmas.Bool.{eq-eqb, true≢false}
use Rattle.std.proofs.lemmas.List.Elements.{All-head, All-tail}
use Rattle.path_pattern.specs.Literals.{HasNoSecondStar, HasNoStar, IsSplitAtStar}
use Rattle.path_pattern.proofs.literals.star_of.Goals as goal
use Rattle.path_normal.specs.Octets.{star}

same_cut : (literal after other more : List ℕ) → HasNoStar literal → HasNoStar other → literal ++ star ∷ after ≡ other ++ star ∷ more → after ≡ more
same_cut [] after [] more plain plain' is = cc
same_cut [] after (octet ∷ other) more plain plain' is =
    let same : octet ≡ star = cc in
    absurd (true≢false (sym (eq-eqb octet star same) ∙ All-head (λ o. (o == star) ≡ false) octet other plain'))
same_cut (octet ∷ literal) after [] more plain plain' is =
    let same : octet ≡ star = cc in
    absurd (true≢false (sym (eq-eqb octet star same) ∙ All-head (λ o. (o == star) ≡ false) octet literal plain))
same_cut (octet ∷ literal) after (first ∷ other) more plain plain' is =
    same_cut literal after other more (All-tail (λ o. (o == star) ≡ false) octet literal plain) (All-tail (λ o. (o == star) ≡ false) first other plain') cc

one_cut : (pattern literal after : List ℕ) → IsSplitAtStar pattern literal after → HasNoStar after → HasNoSecondStar pattern
one_cut pattern literal after split plain other more split' =
    subst HasNoStar (same_cut literal after other more split.plain split'.plain (sym split.parts ∙ split'.parts)) plain

pub returns-in-First : goal.returns-in-First
returns-in-First c = (
  c.in-First.ensures,
  one_cut c.args.pattern.now c.split_at_place.result.0.now c.split_at_place.result.1.now c.split_at_place.ensures (c.has_no_star.ensures.tells.0 c.if-has_no_star.true),
)
