-- Which numbers are new, and one more entry at the end of a history.
-- Used by `grants_are_covered` and `no_later_entry_closes` of `laws.rt`.
use Rattle.std.proofs.Common.{◌≡◌, ℕ, ◌<◌, Bool, true, false, max, [], ◌∷◌, inl, inr, refl, sym, ap, ◌∙◌, true≢false, arith}
use Rattle.std.proofs.lemmas.Bool.Decides.{eqb_tells}
use Rattle.permit_book.specs.Next.{generation_after}
use Rattle.permit_book.specs.Numbers.{slot_of}
use Rattle.permit_book.specs.Outstanding.{granted_in}
use Rattle.gate_history.specs.declared.entry.Entry.TheVariants.{Begun, Arrived, Granted, AskDenied, Started, StartDenied, Returned, Finished, Swept}
use Rattle.gate_history.specs.Grants.{greatest_of, is_covered}
use Rattle.gate_history.specs.History.{History, from, ◌▸◌}
use Rattle.gate_history.specs.Outstanding.{grants, greatest_in, was_granted}
use Rattle.gate_history.specs.Laws.{AboveIsNew, NextIsNew, OneMore}
use Rattle.gate_history.proofs.GrantLaws.{above-not_covered, greatest-granted}
use Rattle.gate_history.proofs.Soundness.{granted_covered}

pub greatest_is : (h : History) (slot : ℕ) → greatest_of (grants h) slot ≡ greatest_in h slot
greatest_is (from base) slot = refl
greatest_is (h ▸ Begun _ _ _) slot = greatest_is h slot
greatest_is (h ▸ Arrived _ _ _ _ _) slot = greatest_is h slot
greatest_is (h ▸ Granted _ n _) slot = greatest-granted n (grants h) slot ∙ ap (max (granted_in n slot)) (greatest_is h slot)
greatest_is (h ▸ AskDenied _ _ _) slot = greatest_is h slot
greatest_is (h ▸ Started _ _ _) slot = greatest_is h slot
greatest_is (h ▸ StartDenied _ _ _) slot = greatest_is h slot
greatest_is (h ▸ Returned _) slot = greatest_is h slot
greatest_is (h ▸ Finished _) slot = greatest_is h slot
greatest_is (h ▸ Swept _ _) slot = greatest_is h slot

pub above_new : AboveIsNew
above_new h n above =
    let none : is_covered (grants h) n ≡ false = above-not_covered (grants h) n (let same = greatest_is h (slot_of n) in omega arith) in
    (none, by (was_granted h n) refl none)
  where
    by : (b : Bool) → was_granted h n ≡ b → is_covered (grants h) n ≡ false → b ≡ false
    by true is none = absurd (true≢false (sym (granted_covered h n is) ∙ none))
    by false is none = refl

after_greatest : (first greatest : ℕ) → 0 < first → greatest < generation_after first greatest
after_greatest first greatest some = elim (eqb_tells greatest 0) [
  | inl e ↦ (let none : greatest ≡ 0 = e.1 in rw e.0 (omega arith))
  | inr d ↦ rw d.0 (omega arith)
]

pub next_new : NextIsNew
next_new h slots first n some next =
    let above = after_greatest first (greatest_in h (slot_of n)) some in
    above_new h n (rw next.generation above)

pub one_more : OneMore
one_more h [] e = refl
one_more h (d ∷ later) e = one_more (h ▸ d) later e
