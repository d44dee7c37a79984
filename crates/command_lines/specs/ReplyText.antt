-- The reply lines of docs/FORMATS.md: one definition for each call, and one for all.
-- Cited by `reply_text` and the session.
use Rattle.std.specs.Prelude.{ℕ, Bool, true, false, List, [], ◌∷◌, Result, Ok, Err, codes, decimal}
use Rattle.path_normal.specs.PageText.{authority_of}
use Rattle.authority_cache.specs.declared.refusal.Stale.{Stale}
use Rattle.permit_book.specs.declared.refusal.NotOut.{NotOut}
use Rattle.gate_history.specs.declared.outcome.Reason.{Reason}
use Rattle.gate_history.specs.Wording.{cause_words, reason_words}
use Rattle.gate_core.specs.declared.call.Reply.{Reply}
use Rattle.gate_core.specs.declared.call.Reply.TheVariants as replies
use Rattle.gate_core.specs.declared.refusal.AskRefusal.{AskRefusal}
use Rattle.gate_core.specs.declared.refusal.AskRefusal.TheVariants as ask
use Rattle.gate_core.specs.declared.refusal.BeginRefusal.{BeginRefusal}
use Rattle.gate_core.specs.declared.refusal.BeginRefusal.TheVariants as begin
use Rattle.gate_core.specs.declared.refusal.Denial.{Denial}
use Rattle.gate_core.specs.declared.refusal.Started.{Started}
use Rattle.gate_core.specs.declared.refusal.SweepRefusal.{SweepRefusal}
use Rattle.gate_core.specs.declared.refusal.SweepRefusal.TheVariants as sweep
use Rattle.gate_core.specs.declared.state.Standing.{Standing}
use Rattle.gate_core.specs.declared.state.Standing.TheVariants as standings
use Rattle.gate_core.specs.declared.state.State.{State}
use Rattle.crawl_job.specs.declared.hop.Refusal.TheVariants as refusals
use Rattle.line_text.specs.Pieces.{line_of}
use Rattle.command_lines.specs.RefusalText.{error_of, refusal_text}

-- the word of an authority's answer in force
abbrev pub standing_word : Standing → List ℕ
standing_word standings.Unknown = codes "unknown"
standing_word standings.Expired = codes "expired"
standing_word standings.Closed = codes "closed"
standing_word standings.Open = codes "open"
standing_word standings.Rules = codes "rules"

-- whether a turn is in flight
abbrev pub fetching_word : Bool → List ℕ
fetching_word true = codes "fetching"
fetching_word false = codes "idle"

-- the reply to a denied ask or start
abbrev pub denial_text : Denial → List ℕ
denial_text d = line_of (codes "NO" ∷ authority_of d.url ∷ cause_words d.cause)

-- the reply to BEGIN
abbrev pub begin_text : List ℕ → Result ℕ BeginRefusal → List ℕ
begin_text authority (Ok turn) = line_of (codes "TURN" ∷ authority ∷ decimal turn ∷ [])
begin_text authority (Err begin.InFlight) = error_of (codes "inflight")
begin_text authority (Err begin.LogFull) = refusal_text refusals.LogFull
begin_text authority (Err begin.AuthoritiesFull) = refusal_text refusals.AuthoritiesFull
begin_text authority (Err begin.NoMemory) = refusal_text refusals.NoMemory

-- the reply to ARRIVE
abbrev pub arrive_text : List ℕ → Standing → Result Unit Stale → List ℕ
arrive_text authority brought (Ok _) = line_of (codes "TAKEN" ∷ authority ∷ standing_word brought ∷ [])
arrive_text authority brought (Err _) = error_of (codes "stale")

-- the reply to ASK
abbrev pub ask_text : Result ℕ AskRefusal → List ℕ
ask_text (Ok number) = line_of (codes "PERMIT" ∷ decimal number ∷ [])
ask_text (Err ask.LogFull) = refusal_text refusals.LogFull
ask_text (Err (ask.Denied d)) = denial_text d
ask_text (Err ask.Busy) = refusal_text refusals.Busy
ask_text (Err ask.PermitsFull) = refusal_text refusals.PermitsFull
ask_text (Err ask.NoMemory) = refusal_text refusals.NoMemory

-- the reply to an allowed start: its permit, and why
abbrev pub go_text : ℕ → Reason → List ℕ
go_text number reason = line_of (codes "GO" ∷ decimal number ∷ reason_words reason)

-- the reply to START
abbrev pub start_text : Result Started Denial → List ℕ
start_text (Ok s) = go_text s.number s.reason
start_text (Err d) = denial_text d

-- the reply to BACK
abbrev pub back_text : ℕ → Result Unit NotOut → List ℕ
back_text number (Ok _) = line_of (codes "BACK" ∷ decimal number ∷ [])
back_text number (Err _) = error_of (codes "notout")

-- the reply to DONE
abbrev pub finish_text : ℕ → Result Unit NotOut → List ℕ
finish_text number (Ok _) = line_of (codes "DONE" ∷ decimal number ∷ [])
finish_text number (Err _) = error_of (codes "notout")

-- the reply to SWEEP
abbrev pub sweep_text : Result ℕ SweepRefusal → List ℕ
sweep_text (Ok count) = line_of (codes "SWEPT" ∷ decimal count ∷ [])
sweep_text (Err sweep.LogFull) = refusal_text refusals.LogFull
sweep_text (Err sweep.NoMemory) = refusal_text refusals.NoMemory

-- the reply to STATE
abbrev pub state_text : List ℕ → State → List ℕ
state_text authority state =
    line_of (codes "STATE" ∷ authority ∷ standing_word state.word ∷ fetching_word state.fetching ∷ [])

-- the reply to URL: the page's URL as the gate writes it
abbrev pub url_text : List ℕ → List ℕ
url_text url = line_of (codes "URL" ∷ url ∷ [])

-- the reply to QUIT
abbrev pub bye_text : List ℕ
bye_text = line_of (codes "BYE" ∷ [])

-- the text of a reply
abbrev pub reply_text : Reply → List ℕ
reply_text (replies.Begin authority result) = begin_text authority result
reply_text (replies.Arrive authority brought result) = arrive_text authority brought result
reply_text (replies.Ask result) = ask_text result
reply_text (replies.Start result) = start_text result
reply_text (replies.Back number result) = back_text number result
reply_text (replies.Finish number result) = finish_text number result
reply_text (replies.Sweep result) = sweep_text result
