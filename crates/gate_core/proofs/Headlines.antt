-- Each possible reply of a call is true by the headline.
-- Used by `Book::answer` and `run`.
use Rattle.std.proofs.Common.{◌≡◌, ℕ, ◌+◌, ◌<◌, ◌≤◌, Bool, true, false, List, [], ◌∷◌, ◌++◌, refl, sym, arith, subst}
use Rattle.std.specs.Prelude.{Option, Some, None, Result, Ok, Err, MatchBool}
use Rattle.std.proofs.lemmas.Bool.{ltb-true, ltb-false}
use Rattle.path_normal.specs.PageText.{authority_of}
use Rattle.robots_verdict.specs.declared.answer.Closure.{Closure}
use Rattle.robots_verdict.specs.declared.decision.Allowed.TheVariants as allows
use Rattle.robots_verdict.specs.declared.decision.Verdict.{Verdict}
use Rattle.robots_verdict.specs.declared.decision.Verdict.TheVariants.{Allow, Deny}
use Rattle.robots_verdict.specs.declared.said.Said.{Said}
use Rattle.robots_verdict.specs.declared.said.Said.TheVariants as says
use Rattle.authority_cache.specs.Lives.{Timed}
use Rattle.authority_cache.specs.declared.standing_answer.StandingAnswer.{StandingAnswer}
use Rattle.authority_cache.specs.Lists.{is_past_answer}
use Rattle.gate_history.specs.declared.entry.Entry.{Entry}
use Rattle.gate_history.specs.declared.entry.Entry.TheVariants.{StartDenied}
use Rattle.gate_history.specs.declared.outcome.Reason.{Reason}
use Rattle.gate_history.specs.declared.outcome.Cause.{Cause}
use Rattle.gate_history.specs.declared.outcome.Cause.TheVariants as causes
use Rattle.gate_history.specs.Cause.{Decides, IsVerdictOn, Judges, outcome_of, Says}
use Rattle.gate_history.specs.History.{History, at_moment, from}
use Rattle.gate_history.specs.Legal.{IsLegal}
use Rattle.gate_history.specs.Outstanding.{stands}
use Rattle.gate_history.specs.Standing.{standing_of}
use Rattle.gate_history.proofs.CallerLemmas as history_laws
use Rattle.gate_core.specs.declared.call.Call.{Call}
use Rattle.gate_core.specs.declared.call.Call.TheVariants as calls
use Rattle.gate_core.specs.declared.call.Reply.{Reply}
use Rattle.gate_core.specs.declared.call.Reply.TheVariants as replies
use Rattle.gate_core.specs.declared.refusal.AskRefusal.{AskRefusal}
use Rattle.gate_core.specs.declared.refusal.AskRefusal.TheVariants as ask
use Rattle.gate_core.specs.declared.refusal.BeginRefusal.{BeginRefusal}
use Rattle.gate_core.specs.declared.refusal.BeginRefusal.TheVariants as begin
use Rattle.gate_core.specs.declared.refusal.Denial.{Denial}
use Rattle.gate_core.specs.declared.refusal.Started.{Started}
use Rattle.gate_core.specs.declared.refusal.SweepRefusal.{SweepRefusal}
use Rattle.gate_core.specs.declared.refusal.SweepRefusal.TheVariants as sweep
use Rattle.authority_cache.specs.declared.refusal.Stale.{Stale}
use Rattle.permit_book.specs.declared.refusal.NotOut.{NotOut}
use Rattle.gate_core.specs.Calls.{Replies, Step}
use Rattle.gate_core.specs.Gate.{Adds, Gate, history, Stays}
use Rattle.gate_core.specs.Replies.{Arrives, Asks, Begins, Finishes, Returns, Starts, Sweeps}
use Rattle.gate_core.specs.Headline.{Allows, Denies, IsAskTold, IsCauseOfStart, IsStartTold, IsTold, RunTells}

-- a reason as an outcome
abbrev allowing : Reason → Result Reason Cause
allowing reason = Ok reason

-- a cause as an outcome
abbrev denying : Cause → Result Reason Cause
denying cause = Err cause

-- ---- what allows, and what denies

judged_ok : (o : Option StandingAnswer) (token url : List ℕ) (m : ℕ) (reason : Reason) → Judges o token url m (Ok reason) →
    (s : StandingAnswer) × ((o ≡ Some s) × ((m ≤ s.begun + s.life) × Says s.says token url (Ok reason)))
judged_ok None token url m reason judged = cc
judged_ok (Some s) token url m reason judged = step (is_past_answer m s) refl judged
  where
    step : (b : Bool) → is_past_answer m s ≡ b → MatchBool b (allowing reason ≡ Err causes.Expired) (Says s.says token url (Ok reason)) →
        (s' : StandingAnswer) × ((Some s ≡ Some s') × ((m ≤ s'.begun + s'.life) × Says s'.says token url (Ok reason)))
    step true past apart = cc
    step false fresh says = (s, (refl, (ltb-false _ _ fresh, says)))

-- how an answer denies a fetch: it is closed, or by a line of its rules
abbrev DeniesBy : Said → List ℕ → List ℕ → Cause → Type 0
DeniesBy a token url causes.Closed = (why : Closure) × (a ≡ says.Closed why)
DeniesBy a token url (causes.Line line) = (text : List ℕ) × ((a ≡ says.Rules text) × IsVerdictOn text token url (Deny line))
DeniesBy a token url _ = ⊥

denied_by : (a : Said) (token url : List ℕ) (cause : Cause) → Says a token url (Err cause) → DeniesBy a token url cause
denied_by (says.Open _) token url cause is = cc
denied_by (says.Closed why) token url cause is =
    let same : cause ≡ causes.Closed = cc in subst (λ (c : Cause). DeniesBy (says.Closed why) token url c) (sym same) (why, refl)
denied_by (says.Rules text) token url cause is = by is.0 is.1.0 is.1.1
  where
    by : (verdict : Verdict) → IsVerdictOn text token url verdict → denying cause ≡ outcome_of verdict → DeniesBy (says.Rules text) token url cause
    by (Allow (allows.Line line)) holds same = cc
    by (Allow allows.NoRule) holds same = cc
    by (Allow allows.RobotsPath) holds same = cc
    by (Deny line) holds same =
        let is : cause ≡ causes.Line line = cc in subst (λ (c : Cause). DeniesBy (says.Rules text) token url c) (sym is) (text, (refl, holds))

judged_err : (o : Option StandingAnswer) (token url : List ℕ) (m : ℕ) (cause : Cause) → Judges o token url m (Err cause) → Denies o token url m cause
judged_err None token url m cause judged = let same : cause ≡ causes.Unknown = cc in subst (λ (c : Cause). Denies None token url m c) (sym same) refl
judged_err (Some s) token url m cause judged = step (is_past_answer m s) refl judged
  where
    fresh_denies : (c : Cause) → m ≤ s.begun + s.life → DeniesBy s.says token url c → Denies (Some s) token url m c
    fresh_denies causes.Spent fresh by = absurd by
    fresh_denies causes.Unknown fresh by = absurd by
    fresh_denies causes.Expired fresh by = absurd by
    fresh_denies causes.Closed fresh by = (s, (refl, (fresh, by)))
    fresh_denies (causes.Line line) fresh by = (s, (refl, (fresh, by)))

    step : (b : Bool) → is_past_answer m s ≡ b → MatchBool b (denying cause ≡ Err causes.Expired) (Says s.says token url (Err cause)) → Denies (Some s) token url m cause
    step true past expired =
        let same : cause ≡ causes.Expired = cc in subst (λ (c : Cause). Denies (Some s) token url m c) (sym same) (s, (refl, ltb-true _ _ past))
    step false fresh is = fresh_denies cause (ltb-false _ _ fresh) (denied_by s.says token url cause is)

allowed : (h : History) (token url : List ℕ) (m : ℕ) (reason : Reason) → IsLegal h → Decides h token url m (Ok reason) → Allows h token url m
allowed h token url m reason legal decides =
    let judged = judged_ok (standing_of h (authority_of url)) token url m reason decides in
    record {
      answer = judged.0;
      standing = judged.1.0;
      in_force = judged.1.1.0;
      day = (history_laws.lives_bounded h (authority_of url) judged.0 legal judged.1.0).1;
      reason = reason;
      says = judged.1.1.1;
    }

decides : (h : History) (token url : List ℕ) (m : ℕ) → (a : Allows h token url m) → Decides h token url m (Ok a.reason)
decides h token url m a =
    subst (λ (o : Option StandingAnswer). Judges o token url m (Ok a.reason)) (sym a.standing) (step (is_past_answer m a.answer) refl)
  where
    step : (b : Bool) → is_past_answer m a.answer ≡ b → MatchBool b (allowing a.reason ≡ Err causes.Expired) (Says a.answer.says token url (Ok a.reason))
    step true past = absurd (late (ltb-true _ _ past) a.in_force)
      where
        late : (a.answer.begun + a.answer.life < m) → m ≤ a.answer.begun + a.answer.life → ⊥
        late less fits = omega arith
    step false past = a.says

not_both : (h : History) (token url : List ℕ) (m : ℕ) (cause : Cause) → Decides h token url m (Err cause) → Allows h token url m → ⊥
not_both h token url m cause denied a =
    let same : denying cause ≡ allowing a.reason = history_laws.decides_once h token url m (Err cause) (Ok a.reason) denied (decides h token url m a) in cc

cause_of_start : (h : History) (number : ℕ) (token url : List ℕ) (m : ℕ) (cause : Cause) → stands h number token url ≡ true →
    Denies (standing_of h (authority_of url)) token url m cause → IsCauseOfStart h number token url m cause
cause_of_start h number token url m causes.Spent out denies = absurd denies
cause_of_start h number token url m causes.Unknown out denies = (out, denies)
cause_of_start h number token url m causes.Expired out denies = (out, denies)
cause_of_start h number token url m causes.Closed out denies = (out, denies)
cause_of_start h number token url m (causes.Line line) out denies = (out, denies)

-- ---- the reply to each call

pub start_told : (old new : Gate) (number : ℕ) (token url : List ℕ) (m : ℕ) (result : Result Started Denial) → IsLegal (history old) →
    Starts old number token url m result new → IsStartTold (history old) number token url m result
start_told old new number token url m (Ok s) legal starts = record {
  started = ((λ _. record { permit = starts.0; answer = allowed (history old) token url _ s.reason legal starts.3 }), (λ _. refl));
  permit = (starts.1, starts.2);
  denied = tt;
}
start_told old new number token url m (Err d) legal starts = step (stands (history old) number token url) refl starts.1
  where
    step : (b : Bool) → stands (history old) number token url ≡ b →
        MatchBool b (Decides (history old) token url (at_moment (history old) m) (Err d.cause) × Adds old (StartDenied (at_moment (history old) m) number d.cause) new)
        ((d.cause ≡ causes.Spent) × Stays old new) →
        IsStartTold (history old) number token url m (Err d)
    step true out denied = record {
      started = ((λ ok. cc), (λ may. absurd (not_both (history old) token url (at_moment (history old) m) d.cause denied.0 may.answer)));
      permit = tt;
      denied = (starts.0, cause_of_start (history old) number token url (at_moment (history old) m) d.cause out (judged_err (standing_of (history old) (authority_of url)) token url (at_moment (history old) m) d.cause denied.0));
    }
    step false none spent = record {
      started = ((λ ok. cc), (λ may. let one = may.permit in cc));
      permit = tt;
      denied = (starts.0, subst (λ (c : Cause). IsCauseOfStart (history old) number token url (at_moment (history old) m) c) (sym spent.0) none);
    }

pub ask_told : (old new : Gate) (token url : List ℕ) (m : ℕ) (result : Result ℕ AskRefusal) → IsLegal (history old) →
    Asks old token url m result new → IsAskTold (history old) token url m result
ask_told old new token url m (Ok number) legal asks =
    record { granted = (asks.4.fit.1, allowed (history old) token url _ asks.1.0 legal asks.1.1); refused = tt }
ask_told old new token url m (Err ask.LogFull) legal asks = record { granted = tt; refused = tt }
ask_told old new token url m (Err (ask.Denied d)) legal asks =
    record { granted = tt; refused = (asks.1, judged_err _ token url _ d.cause asks.2) }
ask_told old new token url m (Err ask.Busy) legal asks = record { granted = tt; refused = tt }
ask_told old new token url m (Err ask.PermitsFull) legal asks = record { granted = tt; refused = tt }
ask_told old new token url m (Err ask.NoMemory) legal asks = record { granted = tt; refused = tt }

pub step_told : (old : Gate) (call : Call) (reply : Reply) (new : Gate) → IsLegal (history old) → Step old call reply new → IsTold (history old) call reply
step_told old (calls.Start number token url m) (replies.Start r) new legal step = start_told old new number token url m r legal step
step_told old (calls.Ask token url m) (replies.Ask r) new legal step = ask_told old new token url m r legal step
step_told old _ _ new legal step = tt

-- ---- that a history stays legal

added_legal : (old new : Gate) (e : Entry) → IsLegal (history old) → Adds old e new → IsLegal (history new)
added_legal old new e legal adds =
    subst (λ (g : Gate). IsLegal (history g)) (sym adds.adds) (subst IsLegal (sym (history_laws.followed_push (from old.base) old.entries e)) (legal, adds.fit))

stays_legal : (old new : Gate) → IsLegal (history old) → Stays old new → IsLegal (history new)
stays_legal old new legal stays = subst (λ (g : Gate). IsLegal (history g)) (sym stays) legal

begins_legal : (old new : Gate) (authority : List ℕ) (m : ℕ) (r : Result ℕ BeginRefusal) → IsLegal (history old) → Begins old authority m r new → IsLegal (history new)
begins_legal old new authority m (Ok turn) legal is = added_legal old new _ legal is.4
begins_legal old new authority m (Err begin.InFlight) legal is = stays_legal old new legal is.1
begins_legal old new authority m (Err begin.LogFull) legal is = stays_legal old new legal is.2
begins_legal old new authority m (Err begin.AuthoritiesFull) legal is = stays_legal old new legal is.3
begins_legal old new authority m (Err begin.NoMemory) legal is = stays_legal old new legal is.2

arrives_legal : (old new : Gate) (authority : List ℕ) (turn : ℕ) (answer : Timed) (m : ℕ) (r : Result Unit Stale) → IsLegal (history old) →
    Arrives old authority turn answer m r new → IsLegal (history new)
arrives_legal old new authority turn answer m (Ok _) legal is = added_legal old new _ legal is.1
arrives_legal old new authority turn answer m (Err _) legal is = stays_legal old new legal is.1

asks_legal : (old new : Gate) (token url : List ℕ) (m : ℕ) (r : Result ℕ AskRefusal) → IsLegal (history old) → Asks old token url m r new → IsLegal (history new)
asks_legal old new token url m (Ok number) legal is = added_legal old new _ legal is.4
asks_legal old new token url m (Err ask.LogFull) legal is = stays_legal old new legal is.1
asks_legal old new token url m (Err (ask.Denied d)) legal is = added_legal old new _ legal is.3
asks_legal old new token url m (Err ask.Busy) legal is = stays_legal old new legal is.3
asks_legal old new token url m (Err ask.PermitsFull) legal is = stays_legal old new legal is.4
asks_legal old new token url m (Err ask.NoMemory) legal is = stays_legal old new legal is.1

starts_legal : (old new : Gate) (number : ℕ) (token url : List ℕ) (m : ℕ) (r : Result Started Denial) → IsLegal (history old) →
    Starts old number token url m r new → IsLegal (history new)
starts_legal old new number token url m (Ok s) legal is = added_legal old new _ legal is.4
starts_legal old new number token url m (Err d) legal is = step (stands (history old) number token url) is.1
  where
    step : (b : Bool) → MatchBool b (Decides (history old) token url (at_moment (history old) m) (Err d.cause) × Adds old (StartDenied (at_moment (history old) m) number d.cause) new)
        ((d.cause ≡ causes.Spent) × Stays old new) → IsLegal (history new)
    step true is = added_legal old new _ legal is.1
    step false is = stays_legal old new legal is.1

returns_legal : (old new : Gate) (number : ℕ) (r : Result Unit NotOut) → IsLegal (history old) → Returns old number r new → IsLegal (history new)
returns_legal old new number (Ok _) legal is = added_legal old new _ legal is.1
returns_legal old new number (Err _) legal is = stays_legal old new legal is.1

finishes_legal : (old new : Gate) (number : ℕ) (r : Result Unit NotOut) → IsLegal (history old) → Finishes old number r new → IsLegal (history new)
finishes_legal old new number (Ok _) legal is = added_legal old new _ legal is.1
finishes_legal old new number (Err _) legal is = stays_legal old new legal is.1

sweeps_legal : (old new : Gate) (m : ℕ) (r : Result ℕ SweepRefusal) → IsLegal (history old) → Sweeps old m r new → IsLegal (history new)
sweeps_legal old new m (Ok count) legal is = added_legal old new _ legal is.2
sweeps_legal old new m (Err sweep.LogFull) legal is = stays_legal old new legal is.1
sweeps_legal old new m (Err sweep.NoMemory) legal is = stays_legal old new legal is.1

pub step_legal : (old : Gate) (call : Call) (reply : Reply) (new : Gate) → IsLegal (history old) → Step old call reply new → IsLegal (history new)
step_legal old (calls.Begin authority m) (replies.Begin _ r) new legal step = begins_legal old new authority m r legal step.1
step_legal old (calls.Arrive authority turn answer m) (replies.Arrive _ _ r) new legal step = arrives_legal old new authority turn answer m r legal step.2
step_legal old (calls.Ask token url m) (replies.Ask r) new legal step = asks_legal old new token url m r legal step
step_legal old (calls.Start number token url m) (replies.Start r) new legal step = starts_legal old new number token url m r legal step
step_legal old (calls.Back number) (replies.Back _ r) new legal step = returns_legal old new number r legal step.1
step_legal old (calls.Finish number) (replies.Finish _ r) new legal step = finishes_legal old new number r legal step.1
step_legal old (calls.Sweep m) (replies.Sweep r) new legal step = sweeps_legal old new m r legal step
step_legal old _ _ new legal step = absurd step

-- ---- lists of calls

pub run_told : (old : Gate) (calls : List Call) (replies : List Reply) (new : Gate) → IsLegal (history old) → Replies old calls replies new → RunTells old calls replies new
run_told old [] [] new legal stays = stays
run_told old (call ∷ later) (reply ∷ rest) new legal run =
    (run.0, (run.1.0, step_told old call reply run.0 legal run.1.0, run_told run.0 later rest new (step_legal old call reply run.0 legal run.1.0) run.1.1))
run_told old [] (reply ∷ rest) new legal run = run
run_told old (call ∷ later) [] new legal run = run

pub replies_push : (old : Gate) (calls : List Call) (replies : List Reply) (mid : Gate) (call : Call) (reply : Reply) (new : Gate) →
    Replies old calls replies mid → Step mid call reply new → Replies old (calls ++ call ∷ []) (replies ++ reply ∷ []) new
replies_push old [] [] mid call reply new stays step = (new, (subst (λ (g : Gate). Step g call reply new) stays step, refl))
replies_push old (c ∷ calls) (r ∷ replies) mid call reply new run step =
    (run.0, (run.1.0, replies_push run.0 calls replies mid call reply new run.1.1 step))
replies_push old [] (r ∷ replies) mid call reply new run step = absurd run
replies_push old (c ∷ calls) [] mid call reply new run step = absurd run
