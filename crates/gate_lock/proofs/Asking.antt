-- A desk after an ask under the lock: its invariant, by the marks of the ask.
-- Used by `Desk::ask_in` and `ask_round`.
use Rattle.std.proofs.Common.{◌≡◌, ℕ, ◌+◌, ◌*◌, ◌≤◌, List, [], ◌++◌, length, ap, false, sym, ◌∙◌, arith}
use Rattle.std.specs.Prelude.{Result, Ok, Err}
use Rattle.std.proofs.lemmas.Bool.{true≢false}
use Rattle.std.proofs.lemmas.List.{append-nil, length-append}
use Rattle.gate_core.specs.declared.refusal.AskRefusal.{AskRefusal}
use Rattle.gate_core.specs.declared.refusal.AskRefusal.TheVariants as ask
use Rattle.permit_book.specs.declared.out.Fetch.{Fetch}
use Rattle.gate_history.specs.History.{entry_count}
use Rattle.gate_core.specs.Gate.{Gate, history}
use Rattle.gate_core.specs.Replies.{Asks}
use Rattle.gate_marks.specs.declared.mark.Mark.{Mark}
use Rattle.gate_ledgers.specs.Accounts.{AccountView}
use Rattle.gate_ledgers.specs.Entered.{entries_of_ask, marks_of_ask}
use Rattle.gate_lock.specs.Desks.{IsDesk, Pass}
use Rattle.gate_lock.specs.Results.{AsksRound, Marks, is_denial, number_in}

-- how many marks an ask adds
added : (ms : List Mark) (old : Gate) (token url : List ℕ) (m : ℕ) (result : Result Pass AskRefusal) →
    length (ms ++ marks_of_ask old token url m (number_in result)) ≡ length ms + entries_of_ask result
added ms old token url m (Ok p) = length-append ms _
added ms old token url m (Err (ask.Denied denial)) = length-append ms _
added ms old token url m (Err ask.LogFull) = length-append ms []
added ms old token url m (Err ask.Busy) = length-append ms []
added ms old token url m (Err ask.PermitsFull) = length-append ms []
added ms old token url m (Err ask.NoMemory) = length-append ms []

pub asked_desk : {seen permits runs turns : ℕ} {a : AccountView} → IsDesk seen permits runs turns a →
    (old : Gate) (asked : Fetch) (m : ℕ) (result : Result Pass AskRefusal) (new : Gate) (seen2 permits2 : ℕ) (a2 : AccountView) →
    AsksRound old asked a m result new a2 → seen ≤ entry_count (history old) → seen2 ≡ entry_count (history new) →
    permits2 ≤ permits + entries_of_ask result → length a.marks + (2 * permits + runs + turns) + 3 * entries_of_ask result ≤ a2.room →
    IsDesk seen2 permits2 runs turns a2
asked_desk {a = a} is old asked m result new seen2 permits2 a2 asks saw sees permits fits =
    let count = ap (λ (a : AccountView). length a.marks) asks.marks ∙ added a.marks old asked.token asked.url m result in
    let places = ap (λ (a : AccountView). length a.sealed.places) asks.marks in
    let below = is.few in
    let counted = asks.count in
    record {
      none_before = ap (λ (a : AccountView). a.sealed.before) asks.marks ∙ is.none_before;
      few = omega (arith, below, count, places, saw, sees, counted);
      fits = omega (arith, fits, count, permits);
    }

unmarked : (a a2 : AccountView) → a2 ≡ record a { room = a2.room } → Marks a [] a2
unmarked a a2 same = same ∙ (λ i. record a { marks = sym (append-nil a.marks) i; room = a2.room })

-- an ask for whose marks there was no memory
pub refused_round : (old : Gate) (asked : Fetch) (a : AccountView) (m : ℕ) (refusal : AskRefusal) (a2 : AccountView) →
    Asks old asked.token asked.url m (Err refusal) old → is_denial refusal ≡ false → a2 ≡ record a { room = a2.room } → AsksRound old asked a m (Err refusal) old a2
refused_round old asked a m (ask.Denied denial) a2 asks none same = absurd (true≢false none)
refused_round old asked a m ask.LogFull a2 asks none same = record { reply = asks; permit = tt; count = omega arith; marks = unmarked a a2 same }
refused_round old asked a m ask.Busy a2 asks none same = record { reply = asks; permit = tt; count = omega arith; marks = unmarked a a2 same }
refused_round old asked a m ask.PermitsFull a2 asks none same = record { reply = asks; permit = tt; count = omega arith; marks = unmarked a a2 same }
refused_round old asked a m ask.NoMemory a2 asks none same = record { reply = asks; permit = tt; count = omega arith; marks = unmarked a a2 same }
