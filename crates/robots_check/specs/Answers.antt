-- The answer to a URL: the robots text's verdict on its path, with its rule line.
-- RFC 9309, section 2.2.2.
use Rattle.std.specs.Prelude.{ℕ, List}
use Rattle.path_normal.specs.declared.fault.UrlFault.{UrlFault}
use Rattle.robots_text.specs.Groups.{Ruled}
use Rattle.robots_text.specs.Records.{Numbered}
use Rattle.robots_text.specs.Walk.{rule_seen}
use Rattle.robots_verdict.specs.declared.decision.Allowed.TheVariants.{Line, NoRule, RobotsPath}
use Rattle.robots_verdict.specs.declared.decision.Verdict.{Verdict}
use Rattle.robots_verdict.specs.declared.decision.Verdict.TheVariants.{Allow, Deny}
use Rattle.robots_verdict.specs.Verdict.{IsStrongest, IsVerdict}
use Rattle.robots_check.specs.declared.finding.Finding.{Finding}
use Rattle.robots_check.specs.declared.finding.Finding.TheVariants as findings
use Rattle.robots_check.specs.Targets.{HasFault, HasPath}

-- an answer: allowed by a rule line, or because none applies, or as a robots.txt; denied by a rule line; or not read
pub data Answer : Type 0 where
  allowed_by : Ruled → Answer
  allowed_unruled : Answer
  allowed_robots : Answer
  denied_by : Ruled → Answer
  unread : UrlFault → Answer

-- the answer of a finding
abbrev pub answer_seen : Finding → Answer
answer_seen (findings.Allowed rule) = allowed_by (rule_seen rule)
answer_seen findings.NoRule = allowed_unruled
answer_seen findings.RobotsFile = allowed_robots
answer_seen (findings.Denied rule) = denied_by (rule_seen rule)
answer_seen (findings.Unread fault) = unread fault

-- this rule line, of this kind, gives this verdict on the path
pub record GivenBy (lines : List Numbered) (word path : List ℕ) (said : Verdict) (ruled : Ruled) : Type 0 where
  pub verdict : IsVerdict lines word path said
  pub strongest : IsStrongest lines word path ruled

-- the answer is the lines' verdict on the path, for the token
abbrev pub IsAnswerOn : List Numbered → List ℕ → List ℕ → Answer → Type 0
IsAnswerOn lines word path (allowed_by ruled) = GivenBy lines word path (Allow (Line ruled.line)) ruled
IsAnswerOn lines word path allowed_unruled = IsVerdict lines word path (Allow NoRule)
IsAnswerOn lines word path allowed_robots = IsVerdict lines word path (Allow RobotsPath)
IsAnswerOn lines word path (denied_by ruled) = GivenBy lines word path (Deny ruled.line) ruled
IsAnswerOn lines word path (unread fault) = ⊥

-- the answer is the lines' verdict on the URL's path, or the URL's fault
abbrev pub IsAnswer : List Numbered → List ℕ → List ℕ → Answer → Type 0
IsAnswer lines word url (unread fault) = HasFault url fault
IsAnswer lines word url answer = (path : List ℕ) × HasPath url path × IsAnswerOn lines word path answer
