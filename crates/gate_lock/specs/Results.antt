-- What asks and begins under the lock return.
-- Cited by `ask.rt` and `turns.rt`.
use Rattle.std.specs.Prelude.{◌≡◌, ℕ, ◌+◌, Bool, true, false, List, IfOk, Result, Ok, Err}
use Rattle.gate_core.specs.declared.refusal.AskRefusal.{AskRefusal}
use Rattle.gate_core.specs.declared.refusal.AskRefusal.TheVariants as ask
use Rattle.gate_core.specs.declared.refusal.BeginRefusal.{BeginRefusal}
use Rattle.gate_core.specs.Gate.{Gate, history}
use Rattle.gate_core.specs.Replies.{Asks, Begins}
use Rattle.permit_book.specs.declared.out.Fetch.{Fetch}
use Rattle.gate_history.specs.History.{entry_count}
use Rattle.gate_marks.specs.declared.mark.Mark.{Mark}
use Rattle.gate_ledgers.specs.Accounts.{AccountView, with_marks}
use Rattle.gate_ledgers.specs.Entered.{entries_of_ask, entries_of_ok, marks_of_ask, marks_of_begin}
use Rattle.gate_lock.specs.Desks.{Errand, Pass}

-- the refusal of an ask is a denial
abbrev pub is_denial : AskRefusal → Bool
is_denial (ask.Denied _) = true
is_denial _ = false

-- the book's reply to an ask, of whose permit it gives the number
abbrev pub number_in : Result Pass AskRefusal → Result ℕ AskRefusal
number_in (Ok p) = Ok p.number
number_in (Err refusal) = Err refusal

-- the account has these marks more, and perhaps more room
abbrev pub Marks : AccountView → List Mark → AccountView → Type 0
Marks a ms a2 = a2 ≡ record (with_marks a ms) { room = a2.room }

-- an ask under the lock: the book's reply, the permit, the number of entries, and the marks
pub record AsksRound (old : Gate) (asked : Fetch) (a : AccountView) (m : ℕ) (result : Result Pass AskRefusal)
    (new : Gate) (a2 : AccountView) : Type 0 where
  pub reply : Asks old asked.token asked.url m (number_in result) new
  pub permit : IfOk result (λ p. p ≡ record { number = p.number; token = asked.token; url = asked.url; desk = a.no })
  pub count : entry_count (history new) ≡ entry_count (history old) + entries_of_ask result
  pub marks : Marks a (marks_of_ask old asked.token asked.url m (number_in result)) a2

-- the book's reply to a begin, of whose errand it gives the turn
abbrev pub turn_in : Result Errand BeginRefusal → Result ℕ BeginRefusal
turn_in (Ok t) = Ok t.turn
turn_in (Err refusal) = Err refusal

-- a begin under the lock: the book's reply, the errand, the number of entries, and the marks
pub record BeginsRound (old : Gate) (authority : List ℕ) (a : AccountView) (m : ℕ) (result : Result Errand BeginRefusal)
    (new : Gate) (a2 : AccountView) : Type 0 where
  pub reply : Begins old authority m (turn_in result) new
  pub errand : IfOk result (λ t. t ≡ record { authority = authority; turn = t.turn; desk = a.no })
  pub count : entry_count (history new) ≡ entry_count (history old) + entries_of_ok result
  pub marks : Marks a (marks_of_begin old authority m (turn_in result)) a2
