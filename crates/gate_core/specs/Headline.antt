-- The headline. For every list of calls, however the calls of several callers interleave and whatever
-- moments are handed in, a start is answered Started exactly when an unspent permit of that number for
-- that token and URL stands and the robots answer then in force, at most 24 hours old, allows it by
-- RFC 9309; each denial names its authority and the winning line, or closed, unknown, expired or spent.
-- The list is that of the calls in the order in which they were made, by whomever; the moments are any.
use Rattle.std.specs.Prelude.{◌≡◌, ℕ, ◌+◌, ◌<◌, ◌≤◌, ◌↔◌, true, false, List, [], ◌∷◌, Option, Some, None, Result, Ok, IsOk, IfOk, IfErr}
use Rattle.path_normal.specs.PageText.{authority_of}
use Rattle.robots_verdict.specs.declared.answer.Closure.{Closure}
use Rattle.robots_verdict.specs.declared.decision.Verdict.TheVariants.{Deny}
use Rattle.robots_verdict.specs.declared.said.Said.TheVariants as says
use Rattle.authority_cache.specs.declared.standing_answer.StandingAnswer.{StandingAnswer}
use Rattle.authority_cache.specs.Lives.{greatest_life}
use Rattle.gate_history.specs.declared.outcome.Reason.{Reason}
use Rattle.gate_history.specs.declared.outcome.Cause.{Cause}
use Rattle.gate_history.specs.declared.outcome.Cause.TheVariants as causes
use Rattle.gate_history.specs.Cause.{IsVerdictOn, Says}
use Rattle.gate_history.specs.History.{History, at_moment}
use Rattle.gate_history.specs.Outstanding.{stands, was_granted}
use Rattle.gate_history.specs.Standing.{standing_of}
use Rattle.gate_core.specs.declared.call.Call.{Call}
use Rattle.gate_core.specs.declared.call.Call.TheVariants as calls
use Rattle.gate_core.specs.declared.call.Reply.{Reply}
use Rattle.gate_core.specs.declared.call.Reply.TheVariants as replies
use Rattle.gate_core.specs.declared.refusal.AskRefusal.{AskRefusal}
use Rattle.gate_core.specs.declared.refusal.AskRefusal.TheVariants as ask
use Rattle.gate_core.specs.declared.refusal.Denial.{Denial}
use Rattle.gate_core.specs.declared.refusal.Started.{Started}
use Rattle.gate_core.specs.Calls.{Step}
use Rattle.gate_core.specs.Gate.{Gate, history, Stays}

-- the answer in force for the URL's authority, at most 24 hours old, allows a fetch now
pub record Allows (h : History) (token url : List ℕ) (moment : ℕ) : Type 0 where
  pub answer : StandingAnswer
  pub standing : standing_of h (authority_of url) ≡ Some answer
  pub in_force : moment ≤ answer.begun + answer.life
  pub day : answer.life ≤ greatest_life
  pub reason : Reason
  pub says : Says answer.says token url (Ok reason)

-- a start may begin: an unspent permit of that number for that token and URL exists, and the answer in force at the
-- start's own moment allows it
pub record MayStart (h : History) (number : ℕ) (token url : List ℕ) (moment : ℕ) : Type 0 where
  pub permit : stands h number token url ≡ true
  pub answer : Allows h token url moment

-- an authority's answer denies a fetch by this cause: the winning line, or that no rules are in force
abbrev pub Denies : Option StandingAnswer → List ℕ → List ℕ → ℕ → Cause → Type 0
Denies standing token url moment causes.Spent = ⊥
Denies standing token url moment causes.Unknown = standing ≡ None
Denies standing token url moment causes.Expired =
    (s : StandingAnswer) × ((standing ≡ Some s) × (s.begun + s.life < moment))
Denies standing token url moment causes.Closed =
    (s : StandingAnswer)
    × ((standing ≡ Some s) × ((moment ≤ s.begun + s.life) × ((why : Closure) × (s.says ≡ says.Closed why))))
Denies standing token url moment (causes.Line line) =
    (s : StandingAnswer) × ((standing ≡ Some s) × ((moment ≤ s.begun + s.life)
    × ((text : List ℕ) × ((s.says ≡ says.Rules text) × IsVerdictOn text token url (Deny line)))))

-- the cause of a denied start: spent without such a permit, else the fetch's
abbrev pub IsCauseOfStart : History → ℕ → List ℕ → List ℕ → ℕ → Cause → Type 0
IsCauseOfStart h number token url moment causes.Spent = stands h number token url ≡ false
IsCauseOfStart h number token url moment cause =
    (stands h number token url ≡ true) × Denies (standing_of h (authority_of url)) token url moment cause

-- the reply to a start: Started exactly if it may start, at its own moment; a denial has its URL, and so its
-- authority, and its cause
pub record IsStartTold (h : History) (number : ℕ) (token url : List ℕ) (m : ℕ)
    (result : Result Started Denial) : Type 0 where
  pub started : IsOk result ↔ MayStart h number token url (at_moment h m)
  pub permit : IfOk result (λ s. (s.number ≡ number) × (s.url ≡ url))
  pub denied : IfErr result (λ d. (d.url ≡ url) × IsCauseOfStart h number token url (at_moment h m) d.cause)

-- the reply to a refused ask: a denial has its URL and its cause
abbrev pub IsRefusalTold : History → List ℕ → List ℕ → ℕ → AskRefusal → Type 0
IsRefusalTold h token url moment (ask.Denied d) =
    (d.url ≡ url) × Denies (standing_of h (authority_of url)) token url moment d.cause
IsRefusalTold h token url moment _ = Unit {0}

-- the reply to an ask: a grant has a new number, and is allowed
pub record IsAskTold (h : History) (token url : List ℕ) (m : ℕ) (result : Result ℕ AskRefusal) : Type 0 where
  pub granted : IfOk result (λ number. (was_granted h number ≡ false) × Allows h token url (at_moment h m))
  pub refused : IfErr result (IsRefusalTold h token url (at_moment h m))

-- the reply to a call
abbrev pub IsTold : History → Call → Reply → Type 0
IsTold h (calls.Start number token url m) (replies.Start r) = IsStartTold h number token url m r
IsTold h (calls.Ask token url m) (replies.Ask r) = IsAskTold h token url m r
IsTold h _ _ = Unit {0}

-- calls in order: each has a possible reply, which is true
abbrev pub RunTells : Gate → List Call → List Reply → Gate → Type 0
RunTells old [] [] new = Stays old new
RunTells old (call ∷ later) (reply ∷ rest) new =
    (mid : Gate) × (Step old call reply mid × IsTold (history old) call reply × RunTells mid later rest new)
RunTells old _ _ new = ⊥
