-- A fetch is decided in one way, since a text has one verdict.
-- Used by `each_fetch_is_decided_once` of `laws.rt`.
use Rattle.std.proofs.Common.{◌≡◌, ℕ, Bool, true, false, List, Some, None, sym, ap, ◌∙◌}
use Rattle.std.specs.Prelude.{Option, Result, Err, MatchBool}
use Rattle.path_normal.specs.Normal.{normal_path}
use Rattle.path_normal.specs.PageText.{authority_of, target_of}
use Rattle.robots_text.specs.Records.{numbered_records}
use Rattle.robots_verdict.specs.declared.said.Said.{Said}
use Rattle.robots_verdict.specs.declared.said.Said.TheVariants as says
use Rattle.robots_verdict.proofs.CallerLemmas as verdict_laws
use Rattle.authority_cache.specs.declared.standing_answer.StandingAnswer.{StandingAnswer}
use Rattle.authority_cache.specs.Lists.{is_past_answer}
use Rattle.gate_history.specs.declared.outcome.Cause.{Cause}
use Rattle.gate_history.specs.declared.outcome.Cause.TheVariants as causes
use Rattle.gate_history.specs.declared.outcome.Reason.{Reason}
use Rattle.gate_history.specs.Standing.{standing_of}
use Rattle.gate_history.specs.Cause.{Judges, Says, outcome_of}
use Rattle.gate_history.specs.Laws.{DecidesOnce}

says_once : (said : Said) (token url : List ℕ) (one other : Result Reason Cause) → Says said token url one → Says said token url other → one ≡ other
says_once (says.Rules text) token url one other is is' =
    is.1.1 ∙ (ap outcome_of (verdict_laws.one (numbered_records text) token (normal_path (target_of url)) is.0 is'.0 is.1.0 is'.1.0) ∙ sym is'.1.1)
says_once (says.Open _) token url one other is is' = is ∙ sym is'
says_once (says.Closed _) token url one other is is' = is ∙ sym is'

judges_once : (standing : Option StandingAnswer) (token url : List ℕ) (moment : ℕ) (one other : Result Reason Cause) →
    Judges standing token url moment one → Judges standing token url moment other → one ≡ other
judges_once None token url moment one other is is' = is ∙ sym is'
judges_once (Some s) token url moment one other is is' = by (is_past_answer moment s) is is'
  where
    by : (b : Bool) → MatchBool b (one ≡ Err causes.Expired) (Says s.says token url one) →
        MatchBool b (other ≡ Err causes.Expired) (Says s.says token url other) → one ≡ other
    by true is is' = is ∙ sym is'
    by false is is' = says_once s.says token url one other is is'

pub decides_once : DecidesOnce
decides_once h token url moment one other = judges_once (standing_of h (authority_of url)) token url moment one other
