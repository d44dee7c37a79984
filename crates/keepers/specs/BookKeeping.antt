-- What a book does for a session: each call is the book's own, and the book holds the permits of all
-- its callers. Cited by `BookKeeper`.
use Rattle.std.specs.Prelude.{◌≡◌, ℕ, List, Option, None, Result, Ok, Err}
use Rattle.gate_history.specs.declared.outcome.Reason.{Reason}
use Rattle.gate_core.specs.declared.refusal.Denial.{Denial}
use Rattle.gate_core.specs.declared.state.State.{State}
use Rattle.gate_core.specs.Gate.{Gate, history, Stays}
use Rattle.gate_core.specs.Replies.{moment_at, Starts}
use Rattle.gate_core.specs.States.{IsState}

-- start: as the book, with only its reason
abbrev pub BookStarts : Gate → ℕ → List ℕ → List ℕ → ℕ → Result Reason Denial → Gate → Type 0
BookStarts old number token url m (Ok reason) new =
    Starts old number token url m (Ok (record { number = number; url = url; reason = reason })) new
BookStarts old number token url m (Err denial) new = Starts old number token url m (Err denial) new

-- state: nothing changes
abbrev pub BookReads : Gate → List ℕ → ℕ → State → Gate → Type 0
BookReads old authority m state new = IsState (history old) authority (moment_at old m) state × Stays old new

-- refresh and fetch: a book fetches nothing
abbrev pub OffersNone : {T : Type 0} → Gate → Option T → Gate → Type 0
OffersNone old told new = (told ≡ None) × Stays old new
