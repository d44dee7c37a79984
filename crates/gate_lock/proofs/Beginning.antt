-- A desk after a begin under the lock: its invariant, by the marks of the begin.
-- Used by `Desk::begin_copied`.
use Rattle.std.proofs.Common.{◌≡◌, ℕ, ◌+◌, ◌*◌, ◌≤◌, List, [], ◌++◌, length, ap, ◌∙◌, arith}
use Rattle.std.specs.Prelude.{Result, Ok, Err}
use Rattle.std.proofs.lemmas.List.{length-append}
use Rattle.gate_history.specs.History.{entry_count}
use Rattle.gate_core.specs.declared.refusal.BeginRefusal.{BeginRefusal}
use Rattle.gate_core.specs.Gate.{Gate, history}
use Rattle.gate_marks.specs.declared.mark.Mark.{Mark}
use Rattle.gate_ledgers.specs.Accounts.{AccountView}
use Rattle.gate_ledgers.specs.Entered.{entries_of_ok, marks_of_begin}
use Rattle.gate_lock.specs.Desks.{Errand, IsDesk}
use Rattle.gate_lock.specs.Results.{BeginsRound, turn_in}

-- how many marks a begin adds
added : (ms : List Mark) (old : Gate) (authority : List ℕ) (m : ℕ) (result : Result Errand BeginRefusal) →
    length (ms ++ marks_of_begin old authority m (turn_in result)) ≡ length ms + entries_of_ok result
added ms old authority m (Ok t) = length-append ms _
added ms old authority m (Err refusal) = length-append ms []

pub begun_desk : {seen permits runs turns : ℕ} {a : AccountView} → IsDesk seen permits runs turns a →
    (old : Gate) (authority : List ℕ) (m : ℕ) (result : Result Errand BeginRefusal) (new : Gate) (seen2 turns2 : ℕ) (a2 : AccountView) →
    BeginsRound old authority a m result new a2 → seen ≤ entry_count (history old) → seen2 ≡ entry_count (history new) →
    turns2 ≤ turns + entries_of_ok result → length a.marks + (2 * permits + runs + turns) + 2 * entries_of_ok result ≤ a2.room →
    IsDesk seen2 permits runs turns2 a2
begun_desk {a = a} is old authority m result new seen2 turns2 a2 begins saw sees turns fits =
    let count = ap (λ (a : AccountView). length a.marks) begins.marks ∙ added a.marks old authority m result in
    let places = ap (λ (a : AccountView). length a.sealed.places) begins.marks in
    let below = is.few in
    let counted = begins.count in
    record {
      none_before = ap (λ (a : AccountView). a.sealed.before) begins.marks ∙ is.none_before;
      few = omega (arith, below, count, places, saw, sees, counted);
      fits = omega (arith, fits, count, turns);
    }
