-- What the changes of a counted book return beside the book's reply, and the marks of what they enter.
-- Cited by `CountedBook`.
use Rattle.std.specs.Prelude.{◌≡◌, ℕ, ◌+◌, List, [], ◌∷◌, length, Result, Ok, Err}
use Rattle.gate_history.specs.declared.entry.Entry.{Entry}
use Rattle.gate_history.specs.declared.entry.Entry.TheVariants.{AskDenied, Begun, Granted, StartDenied, Started, Swept}
use Rattle.gate_history.specs.History.{entry_count, moment_of}
use Rattle.gate_history.specs.Segment.{Sealed}
use Rattle.gate_core.specs.declared.refusal.AskRefusal.{AskRefusal}
use Rattle.gate_core.specs.declared.refusal.AskRefusal.TheVariants as ask
use Rattle.gate_core.specs.declared.refusal.BeginRefusal.{BeginRefusal}
use Rattle.gate_core.specs.declared.refusal.Denial.{Denial}
use Rattle.gate_core.specs.declared.refusal.NoMemory.{NoMemory}
use Rattle.gate_core.specs.declared.refusal.Started.{Started as Start}
use Rattle.gate_core.specs.declared.refusal.SweepRefusal.{SweepRefusal}
use Rattle.gate_core.specs.Gate.{Adds, Gate, history}
use Rattle.gate_core.specs.Replies.{moment_at}
use Rattle.gate_marks.specs.declared.mark.Mark.{Mark}
use Rattle.gate_marks.specs.Marks.{mark_at}
use Rattle.gate_ledgers.specs.declared.last.Last.{Last}

-- the book's reply
abbrev pub reply_in : {X Y E : Type 0} → Result (X × Y) E → Result X E
reply_in (Ok pair) = Ok pair.0
reply_in (Err refusal) = Err refusal

-- an ask's entries: one if granted or denied
abbrev pub entries_of_ask : {X : Type 0} → Result X AskRefusal → ℕ
entries_of_ask (Ok _) = 1
entries_of_ask (Err (ask.Denied _)) = 1
entries_of_ask (Err _) = 0

-- a call's entries: one on success
abbrev pub entries_of_ok : {X E : Type 0} → Result X E → ℕ
entries_of_ok (Ok _) = 1
entries_of_ok (Err _) = 0

-- the mark of the next entry of a gate
abbrev pub next_mark : Gate → Entry → Mark
next_mark g e = mark_at (entry_count (history g)) e

-- the mark of an ask's entry, if it made one
abbrev pub marks_of_ask : Gate → List ℕ → List ℕ → ℕ → Result ℕ AskRefusal → List Mark
marks_of_ask old token url m (Ok number) =
    next_mark old (Granted (moment_at old m) number (record { token = token; url = url })) ∷ []
marks_of_ask old token url m (Err (ask.Denied denial)) =
    next_mark old (AskDenied (moment_at old m) (record { token = token; url = url }) denial.cause) ∷ []
marks_of_ask old token url m (Err refusal) = []

-- the mark of a begin's entry, if it made one
abbrev pub marks_of_begin : Gate → List ℕ → ℕ → Result ℕ BeginRefusal → List Mark
marks_of_begin old authority m (Ok turn) = next_mark old (Begun (moment_at old m) authority turn) ∷ []
marks_of_begin old authority m (Err refusal) = []

-- the mark of a start's entry
abbrev pub marks_of_start : Gate → ℕ → ℕ → Result Start Denial → List Mark
marks_of_start old number m (Ok started) = next_mark old (Started (moment_at old m) number started.reason) ∷ []
marks_of_start old number m (Err denial) = next_mark old (StartDenied (moment_at old m) number denial.cause) ∷ []

-- the mark of a sweep's entry, if it made one
abbrev pub marks_of_sweep : Gate → ℕ → Result ℕ SweepRefusal → List Mark
marks_of_sweep old m (Ok count) = next_mark old (Swept (moment_at old m) count) ∷ []
marks_of_sweep old m (Err refusal) = []

-- how many entries a seal hands out
abbrev pub handed_by : Result Sealed NoMemory → ℕ
handed_by (Ok sealed) = length sealed.entries
handed_by (Err refusal) = 0

-- the last entry's place and moment
abbrev pub IsLastEntry : Gate → Last → Type 0
IsLastEntry g last =
    (old : Gate) (e : Entry) → Adds old e g
    → (last.place ≡ entry_count (history old)) × (entry_count (history g) ≡ last.place + 1)
    × (last.moment ≡ moment_of e)
