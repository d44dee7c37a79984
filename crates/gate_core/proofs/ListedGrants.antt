-- The list of granted slots has each slot's greatest generation.
-- Used by `grants_in`.
use Rattle.std.proofs.Common.{◌≡◌, ℕ, ◌+◌, ◌<◌, ◌≤◌, ◌==◌, zero, suc, Bool, true, false, if◌then◌else◌, List, [], ◌∷◌, ◌++◌, length, filter, take, get_or, inl, inr, refl, sym, ap, ◌∙◌, append_assoc, arith}
use Rattle.std.proofs.lemmas.Bool.Decides.{eqb_tells}
use Rattle.std.proofs.lemmas.List.{append-nil, length-take-le, take_more}
use Rattle.std.proofs.lemmas.List.Elements.{filter-append}
use Rattle.permit_book.specs.declared.out.Slot.{Slot}
use Rattle.permit_book.specs.Table.{Table, last_in, unused}
use Rattle.gate_history.specs.declared.base.SlotGrant.{SlotGrant}
use Rattle.gate_history.specs.Grants.{is_in}
use Rattle.gate_core.specs.Sealing.{grants_at}

-- what was granted in slots, from the one of a place on
abbrev pub grants_from : ℕ → List Slot → List SlotGrant
grants_from i [] = []
grants_from i (s ∷ slots) = grants_at i s.last ++ grants_from (i + 1) slots

grants_more : (i : ℕ) (slots : List Slot) (s : Slot) → grants_from i (slots ++ s ∷ []) ≡ grants_from i slots ++ grants_at (i + length slots) s.last
grants_more i [] s = append-nil (grants_at i s.last) ∙ ap (λ n. grants_at n s.last) (omega arith)
grants_more i (f ∷ slots) s =
    ap (λ gs. grants_at i f.last ++ gs) (grants_more (i + 1) slots s ∙ ap (λ n. grants_from (i + 1) slots ++ grants_at n s.last) (omega arith))
    ∙ sym (append_assoc (grants_at i f.last) (grants_from (i + 1) slots) (grants_at (i + length (f ∷ slots)) s.last))

pub listed-more : (slots : List Slot) (i : ℕ) → i < length slots →
    grants_from 0 (take (i + 1) slots) ≡ grants_from 0 (take i slots) ++ grants_at i (get_or slots i unused).last
listed-more slots i low =
    ap (grants_from 0) (take_more slots i unused low)
    ∙ (grants_more 0 (take i slots) (get_or slots i unused)
    ∙ ap (λ n. grants_from 0 (take i slots) ++ grants_at n (get_or slots i unused).last) (let long = length-take-le i slots (omega (arith, low)) in omega (arith, long)))

own : (slot last : ℕ) → filter (is_in slot) (grants_at slot last) ≡ grants_at slot last
own slot last = by (last == 0)
  where
    by : (b : Bool) → filter (is_in slot) (if b then [] else record { slot = slot; generation = last } ∷ []) ≡ (if b then [] else record { slot = slot; generation = last } ∷ [])
    by true = refl
    by false = elim (eqb_tells slot slot) [ inl e ↦ rw e.0 refl | inr d ↦ absurd (d.1 refl) ]

other : (slot i last : ℕ) → (i == slot) ≡ false → filter (is_in slot) (grants_at i last) ≡ []
other slot i last apart = by (last == 0)
  where
    by : (b : Bool) → filter (is_in slot) (if b then [] else record { slot = i; generation = last } ∷ []) ≡ []
    by true = refl
    by false = rw apart refl

apart : (i slot : ℕ) → ((same : i ≡ slot) → ⊥) → (i == slot) ≡ false
apart i slot other = elim (eqb_tells i slot) [ inl e ↦ absurd (other e.1) | inr d ↦ d.0 ]

past : (slot i : ℕ) (slots : List Slot) → slot < i → filter (is_in slot) (grants_from i slots) ≡ []
past slot i [] low = refl
past slot i (s ∷ slots) low =
    filter-append (is_in slot) (grants_at i s.last) (grants_from (i + 1) slots)
    ∙ (ap (λ gs. gs ++ filter (is_in slot) (grants_from (i + 1) slots)) (other slot i s.last (apart i slot (λ same. omega (arith, same, low))))
    ∙ past slot (i + 1) slots (omega (arith, low)))

at : (slot i k : ℕ) (slots : List Slot) → slot ≡ i + k → filter (is_in slot) (grants_from i slots) ≡ grants_at slot (get_or slots k unused).last
at slot i k [] same = refl
at slot i zero (s ∷ slots) same =
    let is : i ≡ slot = omega (arith, same) in
    filter-append (is_in slot) (grants_at i s.last) (grants_from (i + 1) slots)
    ∙ (ap (λ gs. filter (is_in slot) (grants_at i s.last) ++ gs) (past slot (i + 1) slots (omega (arith, is)))
    ∙ (append-nil (filter (is_in slot) (grants_at i s.last)) ∙ (ap (λ n. filter (is_in slot) (grants_at n s.last)) is ∙ own slot s.last)))
at slot i (suc k) (s ∷ slots) same =
    filter-append (is_in slot) (grants_at i s.last) (grants_from (i + 1) slots)
    ∙ (ap (λ gs. gs ++ filter (is_in slot) (grants_from (i + 1) slots)) (other slot i s.last (apart i slot (λ is. omega (arith, is, same))))
    ∙ at slot (i + 1) k slots (omega (arith, same)))

pub listed : (t : Table) (slot : ℕ) → filter (is_in slot) (grants_from 0 t.slots) ≡ grants_at slot (last_in t slot)
listed t slot = at slot 0 slot t.slots (omega arith)

pub some_at : (slot last : ℕ) → 0 < last → grants_at slot last ≡ record { slot = slot; generation = last } ∷ []
some_at slot last some = elim (eqb_tells last 0) [ inl e ↦ absurd (omega (arith, some, e.1)) | inr d ↦ rw d.0 refl ]

pub none_at : (slot last : ℕ) → last ≤ 0 → grants_at slot last ≡ []
none_at slot last none = elim (eqb_tells last 0) [ inl e ↦ rw e.0 refl | inr d ↦ absurd (d.1 (omega (arith, none))) ]
