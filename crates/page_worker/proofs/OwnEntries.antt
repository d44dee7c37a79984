-- The entries of a desk's steps, one behind another.
-- Used by the lemmas on hops.
use Rattle.std.proofs.Common.{◌≡◌, ◌++◌, ◌∷◌, [], List, sym, ap, ◌∙◌, append_assoc, append-nil}
use Rattle.std.proofs.lemmas.List.{map-append}
use Rattle.gate_history.specs.declared.entry.Entry.{Entry}
use Rattle.gate_history.specs.History.{entry_count}
use Rattle.gate_core.specs.Gate.{Gate, history}
use Rattle.gate_lock.specs.Desks.{DeskView, Looks, Makes}
use Rattle.gate_marks.specs.Marks.{mark_at}
use Rattle.gate_marks.specs.declared.mark.Mark.{Mark}
use Rattle.page_worker.specs.Refreshes.{entries_of}

pub appended : (xs ys zs own more : List Entry) → ys ≡ xs ++ own → zs ≡ ys ++ more → zs ≡ xs ++ (own ++ more)
appended xs ys zs own more one other = other ∙ ap (λ (ds : List Entry). ds ++ more) one ∙ append_assoc xs own more

pub pushed : (old new : List Mark) (m : Mark) → new ≡ old ++ m ∷ [] → entries_of new ≡ entries_of old ++ m.entry ∷ []
pushed old new m is = ap entries_of is ∙ map-append (λ (k : Mark). k.entry) old (m ∷ [])

pub made : (d : DeskView) (g : Gate) (e : Entry) (d2 : DeskView) → Makes d g e d2 →
    entries_of d2.marks ≡ entries_of d.marks ++ e ∷ []
made d g e d2 makes = pushed d.marks d2.marks (mark_at (entry_count (history g)) e) makes.marks_are

pub looked : (d : DeskView) (g : Gate) (d2 : DeskView) → Looks d g d2 → entries_of d2.marks ≡ entries_of d.marks ++ []
looked d g d2 looks = ap entries_of looks.marks_are ∙ sym (append-nil (entries_of d.marks))
