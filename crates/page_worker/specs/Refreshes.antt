-- A refresh of an authority's robots answer: what fetches decide, and the desk's two steps.
-- RFC 9309, sections 2.3.1.1 to 2.3.1.5.
use Rattle.std.specs.Prelude.{◌≡◌, ◌⊎◌, ◌+◌, ◌++◌, ◌∷◌, [], ℕ, List, Option, None, Some, Result, Ok, Err, map}
use Rattle.path_normal.specs.PageText.{robots_url_of}
use Rattle.path_normal.specs.declared.schemes.Schemes.{Schemes}
use Rattle.robots_verdict.specs.declared.answer.Closure.TheVariants as closures
use Rattle.robots_verdict.specs.declared.said.Said.{Said}
use Rattle.robots_verdict.specs.declared.said.Said.TheVariants.{Closed}
use Rattle.authority_cache.specs.Lives.{greatest_life, Timed}
use Rattle.gate_history.specs.History.{begins}
use Rattle.gate_core.specs.declared.refusal.BeginRefusal.{BeginRefusal}
use Rattle.gate_core.specs.declared.state.Standing.{Standing}
use Rattle.gate_core.specs.Gate.{Gate, HasLegalHistory, history}
use Rattle.gate_core.specs.Replies.{moment_at}
use Rattle.gate_core.specs.States.{standing_as}
use Rattle.gate_lock.specs.Desks.{DeskView, Errand, HasOut, KeepsOut}
use Rattle.gate_lock.specs.Steps.{DeskArrives, DeskBegins, Somewhere}
use Rattle.gate_history.specs.declared.entry.Entry.{Entry}
use Rattle.gate_history.specs.declared.entry.Entry.TheVariants as entries
use Rattle.gate_marks.specs.declared.mark.Mark.{Mark}
use Rattle.http_wire.specs.declared.fault.WireFault.{WireFault}
use Rattle.http_wire.specs.declared.response.HttpReply.{HttpReply}
use Rattle.robots_fetch.specs.Walk.{AnswerOfAmong}
use Rattle.fetchers.specs.Limits.{robots_limit}
use Rattle.fetchers.specs.Walks.{AreLed, robots_reply_of}
use Rattle.page_worker.specs.Stale.{IsDue}
use Rattle.page_worker.specs.World.{IsSinceRead, World}

-- what the marks of a desk say
abbrev pub entries_of : List Mark → List Entry
entries_of ms = map (λ m. m.entry) ms

-- fetches of these schemes decide the authority's answer and its life: first of its robots.txt, then of each URL that
-- the one before led to
pub record IsFetched
    (schemes : Schemes) (gives : List ℕ → Result HttpReply WireFault → Type 0) (authority : List ℕ) (says : Said)
    (life : ℕ)
    : Type 0 where
  pub way : List (Result HttpReply WireFault)
  pub url : List ℕ
  pub last : Result HttpReply WireFault
  pub are_led : AreLed schemes gives (robots_url_of authority) way url
  pub is_given : gives url last
  pub decided : AnswerOfAmong schemes authority (map robots_reply_of (way ++ last ∷ [])) says life

-- out of memory: the answer is closed, for the greatest life
abbrev pub IsUndecided : Said → ℕ → Type 0
IsUndecided says life = (says ≡ Closed closures.Other) × (life ≡ greatest_life)

-- the answer is decided by fetches, or memory ran out
abbrev pub IsBrought : Schemes → (List ℕ → Result HttpReply WireFault → Type 0) → List ℕ → Said → ℕ → Type 0
IsBrought schemes gives authority says life = IsFetched schemes gives authority says life ⊎ IsUndecided says life

-- this turn began when, by the history, one of the authority was due: by a call at some moment, which is also the
-- begin's unless the gate's is later
pub record BeganStale (closed_for : ℕ) (authority : List ℕ) (begun turn : ℕ) : Type 0 where
  pub before : Gate
  pub legal : HasLegalHistory before
  pub called : ℕ
  pub begun_is : begun ≡ moment_at before called
  pub due : IsDue closed_for before authority called
  pub turn_is : turn ≡ begins (history before) + 1

-- a turn begins at a desk, under one lock with the check that found it due
pub record BeginsStale (world : World) (authority : List ℕ) (turn : Errand) (old new : DeskView) : Type 0 where
  pub begun : ℕ
  pub since_begun : IsSinceRead world begun
  pub stale : BeganStale world.closed_for authority begun turn.turn
  pub turn_is : turn ≡ record { authority = authority; turn = turn.turn; desk = old.no }
  pub adds : entries_of new.marks ≡ entries_of old.marks ++ entries.Begun begun authority turn.turn ∷ []
  pub out : HasOut old new 0 0 0 0 1 0

-- a desk that did nothing
pub record DoesNothing (old new : DeskView) : Type 0 where
  pub entries_stay : entries_of new.marks ≡ entries_of old.marks
  pub out : KeepsOut old new

-- a turn begins if it is due; nothing is done otherwise, or if the begin is refused
abbrev pub MayBeginErrand : World → List ℕ → Result (Option Errand) BeginRefusal → DeskView → DeskView → Type 0
MayBeginErrand world authority (Ok (Some turn)) old new = BeginsStale world authority turn old new
MayBeginErrand world authority (Ok None) old new = DoesNothing old new
MayBeginErrand world authority (Err refusal) old new = DoesNothing old new

-- a turn brings the answer that fetches decide, by a step of the desk
pub record Brings (world : World) (turn : Errand) (word : Standing) (old new : DeskView) : Type 0 where
  pub answer : Timed
  pub arrived : ℕ
  pub read_arrived : world.reads arrived
  pub brings : IsBrought world.schemes (world.gives robots_limit) turn.authority answer.says answer.life
  pub arrives : Somewhere old (λ before behind. DeskArrives old before turn answer arrived behind new)
  pub word_is : word ≡ standing_as answer.says

-- a turn of the authority began and brought such an answer
pub record IsRefreshed (world : World) (authority : List ℕ) (word : Standing) (old new : DeskView) : Type 0 where
  pub turn : Errand
  pub begun : ℕ
  pub between : DeskView
  pub read_begun : world.reads begun
  pub begins : Somewhere old (λ before behind. DeskBegins old before authority begun (Ok turn) behind between)
  pub brings : Brings world turn word between new

-- no turn began
abbrev pub IsNotBegun : List ℕ → BeginRefusal → DeskView → DeskView → Type 0
IsNotBegun authority refusal old new =
    (moment : ℕ) × Somewhere old (λ before behind. DeskBegins old before authority moment (Err refusal) behind new)

-- a refresh: a turn brought an answer, or none began
abbrev pub Refreshes : World → List ℕ → Result Standing BeginRefusal → DeskView → DeskView → Type 0
Refreshes world authority (Ok word) old new = IsRefreshed world authority word old new
Refreshes world authority (Err refusal) old new = IsNotBegun authority refusal old new
