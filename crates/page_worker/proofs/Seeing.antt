-- What a worker does for an answer of a page's authority, from the steps of the desk.
-- Used by `begin_stale`, `find_answer` and `see_to_answer`.
use Rattle.std.proofs.Common.{◌≡◌, ◌∙◌, ℕ, List, Option, None, Some, Result, Ok, Err, ap, inr, refl, subst}
use Rattle.gate_core.specs.declared.refusal.BeginRefusal.{BeginRefusal}
use Rattle.gate_core.specs.declared.refusal.BeginRefusal.TheVariants as begin
use Rattle.gate_core.specs.declared.state.State.{State}
use Rattle.gate_core.specs.Gate.{Gate}
use Rattle.gate_core.specs.Replies.{moment_at}
use Rattle.gate_history.specs.declared.entry.Entry.{Entry}
use Rattle.gate_history.specs.declared.entry.Entry.TheVariants as entries
use Rattle.gate_lock.specs.Desks.{DeskView, Errand, IsGateOf}
use Rattle.gate_lock.specs.Steps.{DeskReads, Somewhere}
use Rattle.crawl_job.specs.declared.hop.Refusal.{Refusal}
use Rattle.page_worker.specs.Newcomers.{CountsStale}
use Rattle.page_worker.specs.Refreshes.{BeginsStale, MayBeginErrand, entries_of}
use Rattle.page_worker.specs.Stale.{BeginsIfStale}
use Rattle.page_worker.specs.Finding.{FindsAnswer}
use Rattle.page_worker.specs.Visits.{HasNoTurn, IsTurnRefused, SeesToAnswer}
use Rattle.page_worker.specs.WaysOn.{AddsEntries}
use Rattle.page_worker.specs.declared.worker.AnswerSeen.TheVariants as seens
use Rattle.page_worker.specs.World.{World}
use Rattle.page_worker.proofs.Hops.{since}
use Rattle.page_worker.proofs.OwnEntries.{made}

-- the desk's step that begins a turn if it is due
abbrev pub BeginsSomewhere : World → List ℕ → ℕ → ℕ → Result (Option Errand) BeginRefusal → ℕ → DeskView → DeskView → Type 0
BeginsSomewhere world authority m left result left2 old new =
    Somewhere old (λ before behind. BeginsIfStale world.closed_for old before authority m result behind new
    × CountsStale before authority left result left2)

pub in_force : (world : World) (authority : List ℕ) (m left left2 : ℕ) (old new : DeskView) → world.reads m →
    BeginsSomewhere world authority m left (Ok None) left2 old new → SeesToAnswer world authority old new
in_force world authority m left left2 old new reads step =
    let begins = step.1.1.1.0 in
    inr (
      ap entries_of begins.2.marks_are,
      record { moment = m; read = reads; in_force = (step.0, (step.1.0, (step.1.1.0, begins.0))) },
    )

pub in_flight : (world : World) (authority : List ℕ) (m left left2 : ℕ) (old new : DeskView) → world.reads m →
    BeginsSomewhere world authority m left (Err begin.InFlight) left2 old new →
    FindsAnswer world authority left (Ok seens.InFlight) left2 old new
in_flight world authority m left left2 old new reads step =
    let begins = step.1.1.1.0 in (
      record {
        moment = m;
        read = reads;
        in_flight = (step.0, (step.1.0, (step.1.1.0, (begins.0, step.1.1.1.1.1, begins.1, begins.2))));
      },
      step.1.1.1.1.0,
    )

pub awaited : (Tells : List Entry → Type 0) (authority : List ℕ) (later : ℕ) (state : State) (old mid new : DeskView) →
    AddsEntries Tells old mid →
    Somewhere mid (λ before behind. DeskReads mid before authority later state behind new) →
    AddsEntries Tells old new
awaited Tells authority later state old mid new adds waits = record {
  own = adds.own;
  adds = ap entries_of waits.1.1.1.2.marks_are ∙ adds.adds;
  tells = adds.tells;
}

pub turn_refused : (world : World) (authority : List ℕ) (m left left2 : ℕ) (why : BeginRefusal) (refusal : Refusal) (old new : DeskView) →
    ((before : Gate) → CountsStale before authority left (Err why) left2 → HasNoTurn before authority left refusal) →
    world.reads m → BeginsSomewhere world authority m left (Err why) left2 old new → IsTurnRefused world authority left refusal old new
turn_refused world authority m left left2 why refusal old new told reads step =
    let begins = step.1.1.1.0 in
    record {
      moment = m;
      read = reads;
      due = (step.0, (step.1.0, (step.1.1.0, (begins.0, told step.0 step.1.1.1.1, begins.1, begins.2))));
    }

begun_stale : (world : World) (authority : List ℕ) (m : ℕ) (turn : Errand) (old new : DeskView) (before behind : Gate) → world.reads m →
    IsGateOf old.limits old.seen before → BeginsIfStale world.closed_for old before authority m (Ok (Some turn)) behind new →
    BeginsStale world authority turn old new
begun_stale world authority m turn old new before behind reads gate begins = record {
  begun = moment_at before m;
  since_begun = since world before m reads;
  stale = record {
    before = before;
    legal = gate.legal;
    called = m;
    begun_is = refl;
    due = begins.0;
    turn_is = begins.1.0.3;
  };
  turn_is = begins.1.1;
  adds = made old before (entries.Begun (moment_at before m) authority turn.turn) new begins.1.2;
  out = begins.1.2.out_is;
}

-- the step of a turn that begins if it is due, as the desk sees it
pub may_begin : (world : World) (authority : List ℕ) (closed_for m : ℕ) (result : Result (Option Errand) BeginRefusal) (old new : DeskView)
    (before behind : Gate) → world.reads m → closed_for ≡ world.closed_for → IsGateOf old.limits old.seen before →
    BeginsIfStale closed_for old before authority m result behind new → MayBeginErrand world authority result old new
may_begin world authority closed_for m (Ok (Some turn)) old new before behind reads is gate begins =
    begun_stale world authority m turn old new before behind reads gate
    (subst (λ n. BeginsIfStale n old before authority m (Ok (Some turn)) behind new) is begins)
may_begin world authority closed_for m (Ok None) old new before behind reads is gate begins =
    record { entries_stay = ap entries_of begins.2.marks_are; out = begins.2.out_is }
may_begin world authority closed_for m (Err refusal) old new before behind reads is gate begins =
    record { entries_stay = ap entries_of begins.2.marks_are; out = begins.2.out_is }
