-- The strongest line that applies decides, and none but on the path of robots.txt.
-- By the cases of what is the strongest.
use Rattle.std.proofs.Common.{◌≡◌, ℕ, List, refl, sym, ap, ◌∙◌, subst}
use Rattle.std.specs.Prelude.{◌≢◌, Option, Some, None}
use Rattle.robots_text.specs.declared.record.RuleKind.{RuleKind}
use Rattle.robots_text.specs.declared.record.RuleKind.TheVariants as kinds
use Rattle.robots_text.specs.Records.{Numbered}
use Rattle.robots_verdict.specs.declared.weight.Weight.{Weight}
use Rattle.robots_verdict.specs.Strongest.{IsBest, said_by, verdict_of}
use Rattle.robots_verdict.specs.Verdict.{Decides, IsVerdict, robots_path}
use Rattle.std.proofs.lemmas.Bool.{true≢false}
use Rattle.robots_verdict.proofs.decision.verdict_on.Goals as goal

decides : (lines : List Numbered) (word path : List ℕ) (kind : RuleKind) (best : Weight) → best.kind ≡ kind → path ≢ robots_path → IsBest lines word path (Some best) → Decides lines word path best.line kind
decides lines word path kind best is_kind elsewhere is = record {
  elsewhere = elsewhere;
  ruled = is.0;
  is_line = ap (λ w. w.line) is.2;
  is_kind = ap (λ w. w.kind) is.2 ∙ is_kind;
  strongest = is.1;
}

decided : (lines : List Numbered) (word path : List ℕ) (kind : RuleKind) (best : Weight) → best.kind ≡ kind → path ≢ robots_path → IsBest lines word path (Some best) → IsVerdict lines word path (said_by kind best.line)
decided lines word path kinds.Allow best is_kind elsewhere is = decides lines word path kinds.Allow best is_kind elsewhere is
decided lines word path kinds.Disallow best is_kind elsewhere is = decides lines word path kinds.Disallow best is_kind elsewhere is

said : (lines : List Numbered) (word path : List ℕ) (best : Option Weight) → path ≢ robots_path → IsBest lines word path best → IsVerdict lines word path (verdict_of best)
said lines word path None elsewhere is = (elsewhere, is)
said lines word path (Some best) elsewhere is = decided lines word path best.kind best refl elsewhere is

pub returns-then-is_robots_path : goal.returns-then-is_robots_path
returns-then-is_robots_path c lines word is = c.is_robots_path.ensures.0 c.if-is_robots_path.true

pub returns-else-is_robots_path : goal.returns-else-is_robots_path
returns-else-is_robots_path c lines word is =
    subst (IsVerdict lines word c.args.path.now) (sym c.verdict_of.ensures)
    (said lines word c.args.path.now c.args.strongest (λ same. true≢false (sym (c.is_robots_path.ensures.1 same) ∙ c.if-is_robots_path.false)) is)
