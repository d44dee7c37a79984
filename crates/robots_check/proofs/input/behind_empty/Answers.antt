-- An empty line is LF, or CR LF.
-- Used by `behind_empty`.
use Rattle.std.proofs.Common.{◌≡◌, ℕ, List, [], ◌∷◌, Bor, inl, inr, refl, ap, ◌∙◌}
use Rattle.std.specs.Prelude.{Option, None, Some, IfSome}
use Rattle.robots_check.specs.Input.{FollowsEmpty}
use Rattle.robots_check.proofs.input.behind_empty.Goals as goal

behind_cr : (text rest : List ℕ) (first : ℕ) → text ≡ first ∷ rest → first ≡ 13 → (found : Option (Bor (List ℕ))) → IfSome found (λ behind. rest ≡ 10 ∷ behind.now) → IfSome found (λ behind. FollowsEmpty text behind.now)
behind_cr text rest first text_is cr None is = tt
behind_cr text rest first text_is cr (Some behind) is = (13 ∷ 10 ∷ [], inr refl, text_is ∙ ap (λ l. first ∷ l) is ∙ ap (λ x. x ∷ 10 ∷ behind.now) cr)

behind_lf : (text : List ℕ) (found : Option (Bor (List ℕ))) → IfSome found (λ behind. text ≡ 10 ∷ behind.now) → IfSome found (λ behind. FollowsEmpty text behind.now)
behind_lf text None is = tt
behind_lf text (Some behind) is = (10 ∷ [], inl refl, is)

pub returns-in-Some-clause-some : goal.returns-in-Some-clause-some
returns-in-Some-clause-some c =
    behind_cr c.args.text.now c.in-Some.rest.now c.in-Some.first.now c.in-Some.ensures.cases.0 c.if-first-eq13.true c.behind_feed.result c.behind_feed.ensures.some

pub returns-in_default-clause-some : goal.returns-in_default-clause-some
returns-in_default-clause-some c = behind_lf c.args.text.now c.behind_feed-in_default.result c.behind_feed-in_default.ensures.some
