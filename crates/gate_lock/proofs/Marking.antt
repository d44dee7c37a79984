-- A desk after one more entry: its invariant, by the mark of the entry.
-- Used by `Desk`.
use Rattle.std.proofs.Common.{◌≡◌, ℕ, ◌+◌, ◌*◌, ◌≤◌, List, ◌∷◌, [], length, ap, ◌∙◌, arith}
use Rattle.std.proofs.lemmas.List.{length-append}
use Rattle.gate_marks.specs.declared.mark.Mark.{Mark}
use Rattle.gate_ledgers.specs.Accounts.{AccountView, with_marks}
use Rattle.gate_lock.specs.Desks.{IsDesk}

pub marked_desk : {seen permits runs turns : ℕ} {a : AccountView} → IsDesk seen permits runs turns a →
    (mark : Mark) (before seen2 permits2 runs2 turns2 : ℕ) (a2 : AccountView) →
    a2 ≡ with_marks a (mark ∷ []) → seen ≤ before → seen2 ≡ before + 1 →
    length a.marks + 1 + (2 * permits2 + runs2 + turns2) ≤ a.room → IsDesk seen2 permits2 runs2 turns2 a2
marked_desk {a = a} is mark before seen2 permits2 runs2 turns2 a2 marks saw sees fits =
    let count = ap (λ (a : AccountView). length a.marks) marks ∙ length-append a.marks (mark ∷ []) in
    let places = ap (λ (a : AccountView). length a.sealed.places) marks in
    let room = ap (λ (a : AccountView). a.room) marks in
    let below = is.few in
    record {
      none_before = ap (λ (a : AccountView). a.sealed.before) marks ∙ is.none_before;
      few = omega (arith, below, count, places, saw, sees);
      fits = omega (arith, fits, count, room);
    }
