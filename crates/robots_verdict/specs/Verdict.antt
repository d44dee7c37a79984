-- Which line of a robots text allows or denies a path: the strongest of all lines that govern the token
-- and match. A relation over the set of lines, in no order.
-- RFC 9309, section 2.2.2.
use Rattle.std.specs.Prelude.{◌≡◌, ◌≢◌, ℕ, false, List, codes}
use Rattle.path_normal.specs.Normal.{normal_pattern}
use Rattle.path_pattern.specs.Matches.{Matches}
use Rattle.robots_text.specs.declared.record.RuleKind.{RuleKind}
use Rattle.robots_text.specs.declared.record.RuleKind.TheVariants as kinds
use Rattle.robots_text.specs.Groups.{Ruled, IsRuleFor}
use Rattle.robots_text.specs.Records.{Numbered}
use Rattle.robots_verdict.specs.declared.decision.Allowed.TheVariants.{Line, NoRule, RobotsPath}
use Rattle.robots_verdict.specs.declared.decision.Verdict.{Verdict}
use Rattle.robots_verdict.specs.declared.decision.Verdict.TheVariants.{Allow, Deny}
use Rattle.robots_verdict.specs.Weights.{is_above, weight_of}

-- the path of robots.txt, which each crawler may fetch
abbrev pub robots_path : List ℕ
robots_path = codes "/robots.txt"

-- the rule line is for the token, and its pattern matches the path
pub record Applies (lines : List Numbered) (word path : List ℕ) (ruled : Ruled) : Type 0 where
  pub for_token : IsRuleFor lines word ruled
  pub matches : Matches (normal_pattern ruled.pattern) path

-- no line that applies is stronger
pub record IsStrongest (lines : List Numbered) (word path : List ℕ) (ruled : Ruled) : Type 0 where
  pub applies : Applies lines word path ruled
  pub strongest : (other : Ruled) → Applies lines word path other → is_above (weight_of other) (weight_of ruled) ≡ false

-- the line of this number and kind decides
pub record Decides (lines : List Numbered) (word path : List ℕ) (line : ℕ) (kind : RuleKind) : Type 0 where
  pub elsewhere : path ≢ robots_path
  pub ruled : Ruled
  pub is_line : ruled.line ≡ line
  pub is_kind : ruled.kind ≡ kind
  pub strongest : IsStrongest lines word path ruled

-- the verdict of the lines on a path, in normal form, for a token
abbrev pub IsVerdict : List Numbered → List ℕ → List ℕ → Verdict → Type 0
IsVerdict lines word path (Allow RobotsPath) = path ≡ robots_path
IsVerdict lines word path (Allow NoRule) = (path ≢ robots_path) × ((ruled : Ruled) → Applies lines word path ruled → ⊥)
IsVerdict lines word path (Allow (Line line)) = Decides lines word path line kinds.Allow
IsVerdict lines word path (Deny line) = Decides lines word path line kinds.Disallow
