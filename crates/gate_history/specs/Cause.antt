-- Whether a fetch is allowed, and why not (RFC 9309, 2.2.2, 2.3.1 and 2.4).
use Rattle.std.specs.Prelude.{◌≡◌, ℕ, List, Option, Some, None, Result, Ok, Err, MatchBool}
use Rattle.path_normal.specs.Normal.{normal_path}
use Rattle.path_normal.specs.PageText.{authority_of, target_of}
use Rattle.robots_text.specs.Records.{numbered_records}
use Rattle.robots_verdict.specs.declared.decision.Allowed.TheVariants as allowed
use Rattle.robots_verdict.specs.declared.decision.Verdict.{Verdict}
use Rattle.robots_verdict.specs.declared.decision.Verdict.TheVariants.{Allow, Deny}
use Rattle.robots_verdict.specs.declared.said.Said.{Said}
use Rattle.robots_verdict.specs.declared.said.Said.TheVariants as says
use Rattle.robots_verdict.specs.Verdict.{IsVerdict}
use Rattle.authority_cache.specs.declared.standing_answer.StandingAnswer.{StandingAnswer}
use Rattle.authority_cache.specs.Lists.{is_past_answer}
use Rattle.gate_history.specs.declared.outcome.Reason.{Reason}
use Rattle.gate_history.specs.declared.outcome.Reason.TheVariants as reasons
use Rattle.gate_history.specs.declared.outcome.Cause.{Cause}
use Rattle.gate_history.specs.declared.outcome.Cause.TheVariants as causes
use Rattle.gate_history.specs.History.{History}
use Rattle.gate_history.specs.Standing.{standing_of}

-- a verdict's reason or cause, with its line if there is one
abbrev pub outcome_of : Verdict → Result Reason Cause
outcome_of (Allow (allowed.Line line)) = Ok (reasons.Line line)
outcome_of (Allow allowed.NoRule) = Ok reasons.NoRule
outcome_of (Allow allowed.RobotsPath) = Ok reasons.RobotsPath
outcome_of (Deny line) = Err (causes.Line line)

-- the verdict of the text on the URL's path, for this token
abbrev pub IsVerdictOn : List ℕ → List ℕ → List ℕ → Verdict → Type 0
IsVerdictOn text token url verdict = IsVerdict (numbered_records text) token (normal_path (target_of url)) verdict

-- the decision of an answer in force on a fetch: the reason or the cause
abbrev pub Says : Said → List ℕ → List ℕ → Result Reason Cause → Type 0
Says (says.Rules text) token url outcome =
    (verdict : Verdict) × (IsVerdictOn text token url verdict × (outcome ≡ outcome_of verdict))
Says (says.Open _) token url outcome = outcome ≡ Ok reasons.Open
Says (says.Closed _) token url outcome = outcome ≡ Err causes.Closed

-- the decision of an authority's answer now: unknown, then expired, then its own
abbrev pub Judges : Option StandingAnswer → List ℕ → List ℕ → ℕ → Result Reason Cause → Type 0
Judges None token url moment outcome = outcome ≡ Err causes.Unknown
Judges (Some s) token url moment outcome =
    MatchBool (is_past_answer moment s) (outcome ≡ Err causes.Expired) (Says s.says token url outcome)

-- the history decides a fetch at this moment
abbrev pub Decides : History → List ℕ → List ℕ → ℕ → Result Reason Cause → Type 0
Decides h token url moment outcome = Judges (standing_of h (authority_of url)) token url moment outcome
