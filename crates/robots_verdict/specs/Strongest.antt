-- The strongest of the lines that apply.
-- Cited by the searches for it.
use Rattle.std.specs.Prelude.{◌≡◌, ℕ, List, Option, Some, None, if◌then◌else◌}
use Rattle.robots_text.specs.declared.record.RuleKind.{RuleKind}
use Rattle.robots_text.specs.declared.record.RuleKind.TheVariants as kinds
use Rattle.robots_text.specs.Groups.{Ruled}
use Rattle.robots_text.specs.Records.{Numbered}
use Rattle.robots_verdict.specs.declared.decision.Allowed.TheVariants.{Line, NoRule}
use Rattle.robots_verdict.specs.declared.decision.Verdict.{Verdict}
use Rattle.robots_verdict.specs.declared.decision.Verdict.TheVariants.{Allow, Deny}
use Rattle.robots_verdict.specs.declared.weight.Weight.{Weight}
use Rattle.robots_verdict.specs.Placed.{Placed}
use Rattle.robots_verdict.specs.Rows.{row_at}
use Rattle.robots_verdict.specs.Verdict.{Applies, IsStrongest}
use Rattle.robots_verdict.specs.Weights.{is_above, weight_of}

-- the strongest applicable line's weight, if any
abbrev pub IsBest : List Numbered → List ℕ → List ℕ → Option Weight → Type 0
IsBest lines word path None = (ruled : Ruled) → Applies lines word path ruled → ⊥
IsBest lines word path (Some best) = (ruled : Ruled) × (IsStrongest lines word path ruled) × (weight_of ruled ≡ best)

-- the verdict of a line of this kind and number
abbrev pub said_by : RuleKind → ℕ → Verdict
said_by kinds.Allow line = Allow (Line line)
said_by kinds.Disallow line = Deny line

-- the verdict by the strongest line
abbrev pub verdict_of : Option Weight → Verdict
verdict_of None = Allow NoRule
verdict_of (Some best) = said_by best.kind best.line

-- the stronger of two weights; if they rank alike, the former
abbrev pub stronger : Option Weight → Weight → Weight
stronger None other = other
stronger (Some best) other = if is_above other best then other else best

-- the verdict by the row at a place, if any
abbrev pub verdict_at : List Placed → Option ℕ → Verdict
verdict_at rows None = Allow NoRule
verdict_at rows (Some place) = said_by (row_at rows place).kind (row_at rows place).line
