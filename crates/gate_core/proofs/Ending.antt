-- The ends of a permit: what is not out by the table is not out by the history.
-- Used by `Book::back` and `Book::finish`.
use Rattle.std.proofs.Common.{◌≡◌, ℕ, false, sym, ◌∙◌, subst}
use Rattle.permit_book.specs.Table.{is_running, is_unspent}
use Rattle.gate_history.specs.Outstanding as history
use Rattle.gate_core.specs.declared.book.Book.TheInside.{Inside}
use Rattle.gate_core.specs.Gate.{Gate, history as history_of}
use Rattle.gate_core.specs.Kept.{gate_of, IsKept}
use Rattle.gate_core.proofs.Keeping.{reads}

module _ (b : Inside) (kept : IsKept b) (g : Gate) (is : gate_of b ≡ g) (number : ℕ) where
  pub not_unspent : is_unspent b.permits number ≡ false → history.is_unspent (history_of g) number ≡ false
  not_unspent out =
      subst (λ (old : Gate). history.is_unspent (history_of old) number ≡ false) is
      (sym ((reads b kept b.entries).unspent_numbers number) ∙ out)

  pub not_running : is_running b.permits number ≡ false → history.is_running (history_of g) number ≡ false
  not_running out =
      subst (λ (old : Gate). history.is_running (history_of old) number ≡ false) is
      (sym ((reads b kept b.entries).running_numbers number) ∙ out)
