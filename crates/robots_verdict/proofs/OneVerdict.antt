-- A path has one verdict.
-- Used by the law on verdicts.
use Rattle.std.proofs.Common.{◌≡◌, ℕ, List, refl, sym, ap, ◌∙◌}
use Rattle.robots_text.specs.declared.record.RuleKind.{RuleKind}
use Rattle.robots_text.specs.declared.record.RuleKind.TheVariants as kinds
use Rattle.robots_text.specs.Groups.{Ruled}
use Rattle.robots_text.specs.Records.{Numbered}
use Rattle.robots_verdict.specs.declared.decision.Allowed.TheVariants.{Line, NoRule, RobotsPath}
use Rattle.robots_verdict.specs.declared.decision.Verdict.{Verdict}
use Rattle.robots_verdict.specs.declared.decision.Verdict.TheVariants.{Allow, Deny}
use Rattle.robots_verdict.specs.Verdict.{Decides, IsStrongest, IsVerdict}
use Rattle.robots_verdict.specs.Weights.{weight_of}
use Rattle.robots_verdict.proofs.Weighing.{same_weight}

pub one_weight : (lines : List Numbered) (word path : List ℕ) (one other : Ruled) → IsStrongest lines word path one → IsStrongest lines word path other → weight_of one ≡ weight_of other
one_weight lines word path one other is is' =
    same_weight (weight_of one) (weight_of other) (is'.strongest one is.applies) (is.strongest other is'.applies)

one_line : (lines : List Numbered) (word path : List ℕ) (line other : ℕ) (kind kind' : RuleKind) →
    Decides lines word path line kind → Decides lines word path other kind' → (kind ≡ kind') × (line ≡ other)
one_line lines word path line other kind kind' one two =
    let same = one_weight lines word path one.ruled two.ruled one.strongest two.strongest in
    (sym one.is_kind ∙ ap (λ w. w.kind) same ∙ two.is_kind, sym one.is_line ∙ ap (λ w. w.line) same ∙ two.is_line)

no_kind : kinds.Allow ≡ kinds.Disallow → ⊥
no_kind same = cc

pub one : (lines : List Numbered) (word path : List ℕ) (a b : Verdict) → IsVerdict lines word path a → IsVerdict lines word path b → a ≡ b
one lines word path (Allow RobotsPath) (Allow RobotsPath) is is' = refl
one lines word path (Allow RobotsPath) (Allow NoRule) is is' = absurd (is'.0 is)
one lines word path (Allow RobotsPath) (Allow (Line other)) is is' = absurd (is'.elsewhere is)
one lines word path (Allow RobotsPath) (Deny other) is is' = absurd (is'.elsewhere is)
one lines word path (Allow NoRule) (Allow RobotsPath) is is' = absurd (is.0 is')
one lines word path (Allow NoRule) (Allow NoRule) is is' = refl
one lines word path (Allow NoRule) (Allow (Line other)) is is' = absurd (is.1 is'.ruled is'.strongest.applies)
one lines word path (Allow NoRule) (Deny other) is is' = absurd (is.1 is'.ruled is'.strongest.applies)
one lines word path (Allow (Line line)) (Allow RobotsPath) is is' = absurd (is.elsewhere is')
one lines word path (Allow (Line line)) (Allow NoRule) is is' = absurd (is'.1 is.ruled is.strongest.applies)
one lines word path (Allow (Line line)) (Allow (Line other)) is is' = ap (λ n. Allow (Line n)) (one_line lines word path line other kinds.Allow kinds.Allow is is').1
one lines word path (Allow (Line line)) (Deny other) is is' = absurd (no_kind (one_line lines word path line other kinds.Allow kinds.Disallow is is').0)
one lines word path (Deny line) (Allow RobotsPath) is is' = absurd (is.elsewhere is')
one lines word path (Deny line) (Allow NoRule) is is' = absurd (is'.1 is.ruled is.strongest.applies)
one lines word path (Deny line) (Allow (Line other)) is is' = absurd (no_kind (sym (one_line lines word path line other kinds.Disallow kinds.Allow is is').0))
one lines word path (Deny line) (Deny other) is is' = ap (λ n. Deny n) (one_line lines word path line other kinds.Disallow kinds.Disallow is is').1
