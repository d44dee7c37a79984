-- A start of a good permit is never denied as spent.
-- Used by `Desk::start`.
use Rattle.std.proofs.Common.{◌≡◌, ◌≢◌, ℕ, Bool, true, false, List, sym, ap}
use Rattle.std.proofs.lemmas.Bool.{true≢false}
use Rattle.std.specs.Prelude.{IfErr, MatchBool, Option, None, Some, Result, Ok, Err}
use Rattle.robots_verdict.specs.declared.decision.Allowed.TheVariants as allowed
use Rattle.robots_verdict.specs.declared.decision.Verdict.{Verdict}
use Rattle.robots_verdict.specs.declared.decision.Verdict.TheVariants.{Allow, Deny}
use Rattle.robots_verdict.specs.declared.said.Said.{Said}
use Rattle.robots_verdict.specs.declared.said.Said.TheVariants as says
use Rattle.authority_cache.specs.declared.standing_answer.StandingAnswer.{StandingAnswer}
use Rattle.authority_cache.specs.Lists.{is_past_answer}
use Rattle.path_normal.specs.PageText.{authority_of}
use Rattle.gate_history.specs.declared.outcome.Reason.{Reason}
use Rattle.gate_history.specs.declared.outcome.Cause.{Cause}
use Rattle.gate_history.specs.declared.outcome.Cause.TheVariants.{Expired, Spent}
use Rattle.gate_history.specs.Cause.{Judges, Says, outcome_of}
use Rattle.gate_history.specs.Outstanding.{stands}
use Rattle.gate_history.specs.Standing.{standing_of}
use Rattle.gate_core.specs.declared.refusal.Denial.{Denial}
use Rattle.gate_core.specs.Gate.{Gate, history}
use Rattle.gate_core.specs.Replies.{moment_at}
use Rattle.gate_lock.specs.Desks.{DeskView, Pass, Run}
use Rattle.gate_lock.specs.Steps.{DeskStarts}

verdict_says : (verdict : Verdict) (outcome : Result Reason Cause) → outcome ≡ Err Spent → outcome ≡ outcome_of verdict → ⊥
verdict_says (Allow (allowed.Line line)) outcome spent is = cc
verdict_says (Allow allowed.NoRule) outcome spent is = cc
verdict_says (Allow allowed.RobotsPath) outcome spent is = cc
verdict_says (Deny line) outcome spent is = cc

answer_says : (said : Said) (token url : List ℕ) (outcome : Result Reason Cause) → outcome ≡ Err Spent → Says said token url outcome → ⊥
answer_says (says.Rules text) token url outcome spent said = verdict_says said.0 outcome spent said.1.1
answer_says (says.Open why) token url outcome spent said = cc
answer_says (says.Closed why) token url outcome spent said = cc

past_or_says : (is_past : Bool) (said : Said) (token url : List ℕ) (outcome : Result Reason Cause) → outcome ≡ Err Spent →
    MatchBool is_past (outcome ≡ Err Expired) (Says said token url outcome) → ⊥
past_or_says true said token url outcome spent past = cc
past_or_says false said token url outcome spent judges = answer_says said token url outcome spent judges

standing_says : (standing : Option StandingAnswer) (token url : List ℕ) (moment : ℕ) (outcome : Result Reason Cause) → outcome ≡ Err Spent →
    Judges standing token url moment outcome → ⊥
standing_says None token url moment outcome spent unknown = cc
standing_says (Some s) token url moment outcome spent judges = past_or_says (is_past_answer moment s) s.says token url outcome spent judges

arm : (b : Bool) (P Q : Type 0) → b ≡ true → MatchBool b P Q → P
arm true P Q is both = both
arm false P Q is both = absurd (true≢false (sym is))

pub not_spent : (d : DeskView) (old : Gate) (p : Pass) (m : ℕ) (result : Result Run Denial) (new : Gate) (d2 : DeskView) →
    DeskStarts d old p m result new d2 → IfErr result (λ denial. denial.cause ≢ Spent)
not_spent d old p m (Ok run) new d2 starts = tt
not_spent d old p m (Err denial) new d2 starts = λ spent.
    standing_says (standing_of (history old) (authority_of p.url)) p.token p.url (moment_at old m) (Err denial.cause) (ap Err spent)
    (arm (stands (history old) p.number p.token p.url) _ _ starts.0 starts.1.1).0
