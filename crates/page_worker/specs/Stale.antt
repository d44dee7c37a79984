-- A job begins a turn only if one of its page's authority is due.
-- Used by `begin_if_stale`; RFC 9309, sections 2.3.1.4 and 2.4.
use Rattle.std.specs.Prelude.{◌≡◌, ◌⊎◌, ◌+◌, ◌≤◌, ℕ, List, Option, None, Some, Result, Ok, Err}
use Rattle.robots_verdict.specs.declared.answer.Closure.TheVariants as closures
use Rattle.robots_verdict.specs.declared.said.Said.TheVariants as says
use Rattle.authority_cache.specs.declared.standing_answer.StandingAnswer.{StandingAnswer}
use Rattle.gate_history.specs.Standing.{standing_of}
use Rattle.gate_core.specs.declared.refusal.BeginRefusal.{BeginRefusal}
use Rattle.gate_core.specs.declared.state.Standing.{Standing}
use Rattle.gate_core.specs.declared.state.Standing.TheVariants as standings
use Rattle.gate_core.specs.declared.state.State.{State}
use Rattle.gate_core.specs.Gate.{Gate, Stays, history}
use Rattle.gate_core.specs.Replies.{moment_at}
use Rattle.gate_core.specs.States.{IsState}
use Rattle.gate_lock.specs.Desks.{DeskView, Errand, Looks}
use Rattle.gate_lock.specs.Steps.{DeskBegins}

-- no answer is in force
abbrev pub IsNoAnswer : Standing → Type 0
IsNoAnswer standing = (standing ≡ standings.Unknown) ⊎ (standing ≡ standings.Expired)

-- the gate has no answer of the authority in force when called
abbrev pub LacksAnswer : Gate → List ℕ → ℕ → Type 0
LacksAnswer g authority m =
    (state : State) × (IsState (history g) authority (moment_at g m) state × IsNoAnswer state.word)

-- a network fault closed the answer's site, in a turn that began so many seconds before this moment, or earlier
abbrev pub WasClosed : Option StandingAnswer → ℕ → ℕ → Type 0
WasClosed None seconds moment = ⊥
WasClosed (Some s) seconds moment = (s.says ≡ says.Closed closures.Network) × (s.begun + seconds ≤ moment)

-- a turn of the authority is due when the gate is called: no answer is in force, or a network fault has kept the site
-- closed for so many seconds
abbrev pub IsDue : ℕ → Gate → List ℕ → ℕ → Type 0
IsDue closed_for g authority m =
    LacksAnswer g authority m ⊎ WasClosed (standing_of (history g) authority) closed_for m

-- a turn begins if it is due; if it is not, or the begin is refused, the desk only looks
abbrev pub BeginsIfStale :
    ℕ → DeskView → Gate → List ℕ → ℕ → Result (Option Errand) BeginRefusal → Gate → DeskView → Type 0
BeginsIfStale closed_for d old authority m (Ok (Some turn)) new d2 =
    IsDue closed_for old authority m × DeskBegins d old authority m (Ok turn) new d2
BeginsIfStale closed_for d old authority m (Ok None) new d2 =
    (IsDue closed_for old authority m → ⊥) × (new ≡ old) × Looks d old d2
BeginsIfStale closed_for d old authority m (Err refusal) new d2 =
    IsDue closed_for old authority m × Stays old new × Looks d old d2
