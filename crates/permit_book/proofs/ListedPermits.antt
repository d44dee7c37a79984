-- A table's lists have the same under each number as the table.
-- Used by `Permits::permits_at`.
use Rattle.std.proofs.Common.{◌≡◌, ◌≢◌, ℕ, ◌+◌, ◌<◌, ◌≤◌, ◌==◌, zero, suc, Bool, true, false, if◌then◌else◌, List, [], ◌∷◌, ◌++◌, length, filter, take, get_or, inl, inr, refl, sym, ap, ◌∙◌, append_assoc, arith}
use Rattle.std.proofs.lemmas.Bool.Decides.{eqb_tells}
use Rattle.std.proofs.lemmas.List.{append-nil, length-take-le, take_more}
use Rattle.std.proofs.lemmas.List.Elements.{filter-append}
use Rattle.permit_book.specs.declared.granted_permit.GrantedPermit.{GrantedPermit}
use Rattle.permit_book.specs.declared.out.SlotContent.{SlotContent}
use Rattle.permit_book.specs.declared.out.SlotContent.TheVariants.{Nothing, Unspent, Running}
use Rattle.permit_book.specs.declared.listing.PermitState.{PermitState}
use Rattle.permit_book.specs.declared.listing.PermitState.TheVariants as stages
use Rattle.permit_book.specs.declared.out.Slot.{Slot}
use Rattle.permit_book.specs.Numbers.{generation_of, most_slots, number_in, slot_of}
use Rattle.permit_book.specs.Outstanding.{is_numbered, listed_in, running_in, unspent_in}
use Rattle.permit_book.specs.Table.{Table, last_in, out_under, slot_at, unused}
use Rattle.permit_book.proofs.TableLaws.{same_number}
use Rattle.permit_book.proofs.TellingFree.{number_parts}

-- the permits of slots, from a place on
abbrev pub all_from : (ℕ → SlotContent → List GrantedPermit) → ℕ → List Slot → List GrantedPermit
all_from has i [] = []
all_from has i (s ∷ slots) = has (number_in i s.last) s.out ++ all_from has (i + 1) slots

all_more : (has : ℕ → SlotContent → List GrantedPermit) (i : ℕ) (slots : List Slot) (s : Slot) →
    all_from has i (slots ++ s ∷ []) ≡ all_from has i slots ++ has (number_in (i + length slots) s.last) s.out
all_more has i [] s = append-nil (has (number_in i s.last) s.out) ∙ ap (λ n. has (number_in n s.last) s.out) (omega arith)
all_more has i (f ∷ slots) s =
    ap (λ ps. has (number_in i f.last) f.out ++ ps) (all_more has (i + 1) slots s
    ∙ ap (λ n. all_from has (i + 1) slots ++ has (number_in n s.last) s.out) (omega arith))
    ∙ sym (append_assoc (has (number_in i f.last) f.out) (all_from has (i + 1) slots) (has (number_in (i + length (f ∷ slots)) s.last) s.out))

pub listed-more : (has : ℕ → SlotContent → List GrantedPermit) (slots : List Slot) (i : ℕ) → i < length slots →
    all_from has 0 (take (i + 1) slots) ≡ all_from has 0 (take i slots) ++ has (number_in i (get_or slots i unused).last) (get_or slots i unused).out
listed-more has slots i low =
    ap (all_from has 0) (take_more slots i unused low)
    ∙ (all_more has 0 (take i slots) (get_or slots i unused)
    ∙ ap (λ n. all_from has 0 (take i slots) ++ has (number_in n (get_or slots i unused).last) (get_or slots i unused).out)
    (let long = length-take-le i slots (omega (arith, low)) in omega (arith, long)))

other_slot : (number i last : ℕ) → i < most_slots → i ≢ slot_of number → (number_in i last == number) ≡ false
other_slot number i last small apart = elim (eqb_tells (number_in i last) number) [
  | inl e ↦ absurd (apart (sym (number_parts i last small).0 ∙ ap slot_of e.1))
  | inr d ↦ d.0
]

-- the permit of a slot under the number
abbrev in_slot : (ℕ → SlotContent → List GrantedPermit) → ℕ → Slot → List GrantedPermit
in_slot has number s = if s.last == generation_of number then has number s.out else []

-- how lists of outstanding permits are made
pub record Lists (has : ℕ → SlotContent → List GrantedPermit) : Type 0 where
  pub own : (number : ℕ) (out : SlotContent) → filter (is_numbered number) (has number out) ≡ has number out
  pub others : (number m : ℕ) (out : SlotContent) → (m == number) ≡ false → filter (is_numbered number) (has m out) ≡ []
  pub none : (number : ℕ) → has number Nothing ≡ []

module _ (has : ℕ → SlotContent → List GrantedPermit) (lists : Lists has) where
  past : (number i : ℕ) (slots : List Slot) → slot_of number < i → i + length slots ≤ most_slots → filter (is_numbered number) (all_from has i slots) ≡ []
  past number i [] low few = refl
  past number i (s ∷ slots) low few =
      let small : i < most_slots = omega (arith, few) in
      filter-append (is_numbered number) (has (number_in i s.last) s.out) (all_from has (i + 1) slots)
      ∙ (ap (λ ps. ps ++ filter (is_numbered number) (all_from has (i + 1) slots))
      (lists.others number (number_in i s.last) s.out (other_slot number i s.last small (λ same. omega (arith, same, low))))
      ∙ past number (i + 1) slots (omega (arith, low)) (omega (arith, few)))

  here : (number i : ℕ) (s : Slot) → slot_of number ≡ i → i < most_slots → filter (is_numbered number) (has (number_in i s.last) s.out) ≡ in_slot has number s
  here number i s same small = elim (eqb_tells s.last (generation_of number)) [
    | inl e ↦ (let is : number_in i s.last ≡ number = (λ j. number_in (sym same j) (e.1 j)) ∙ whole number in
        rw (e.0, is) (lists.own number s.out))
    | inr d ↦ (let other : (number_in i s.last == number) ≡ false = elim (eqb_tells (number_in i s.last) number) [
      | inl e ↦ absurd (d.1 (sym (number_parts i s.last small).1 ∙ ap generation_of e.1))
      | inr o ↦ o.0
    ] in rw d.0 (lists.others number (number_in i s.last) s.out other))
  ]
    where
      whole : (number : ℕ) → number_in (slot_of number) (generation_of number) ≡ number
      whole number = omega arith

  at : (number i k : ℕ) (slots : List Slot) → slot_of number ≡ i + k → i + length slots ≤ most_slots →
      filter (is_numbered number) (all_from has i slots) ≡ in_slot has number (get_or slots k unused)
  at number i k [] same few = elim (eqb_tells 0 (generation_of number)) [
    | inl e ↦ rw e.0 (sym (lists.none number))
    | inr d ↦ rw d.0 refl
  ]
  at number i zero (s ∷ slots) same few =
      let small : i < most_slots = omega (arith, few) in
      let is : slot_of number ≡ i = omega (arith, same) in
      filter-append (is_numbered number) (has (number_in i s.last) s.out) (all_from has (i + 1) slots)
      ∙ (ap (λ ps. filter (is_numbered number) (has (number_in i s.last) s.out) ++ ps) (past number (i + 1) slots (omega (arith, is)) (omega (arith, few)))
      ∙ (append-nil (filter (is_numbered number) (has (number_in i s.last) s.out)) ∙ here number i s is small))
  at number i (suc k) (s ∷ slots) same few =
      let small : i < most_slots = omega (arith, few) in
      filter-append (is_numbered number) (has (number_in i s.last) s.out) (all_from has (i + 1) slots)
      ∙ (ap (λ ps. ps ++ filter (is_numbered number) (all_from has (i + 1) slots))
      (lists.others number (number_in i s.last) s.out (other_slot number i s.last small (λ is. omega (arith, is, same))))
      ∙ at number (i + 1) k slots (omega (arith, same)) (omega (arith, few)))

  pub listed : (t : Table) → length t.slots ≤ most_slots → (number : ℕ) → filter (is_numbered number) (all_from has 0 t.slots) ≡ has number (out_under t number)
  listed t few number = at number 0 (slot_of number) t.slots (omega arith) (omega (arith, few)) ∙ by (last_in t (slot_of number) == generation_of number)
    where
      by : (b : Bool) → (if b then has number (slot_at t (slot_of number)).out else []) ≡ has number (if b then (slot_at t (slot_of number)).out else Nothing)
      by true = refl
      by false = sym (lists.none number)

lists_unspent : Lists unspent_in
lists_unspent = record {
  own = λ number out. own number out;
  others = λ number m out apart. others number m out apart;
  none = λ number. refl;
}
  where
    own : (number : ℕ) (out : SlotContent) → filter (is_numbered number) (unspent_in number out) ≡ unspent_in number out
    own number Nothing = refl
    own number (Unspent fetch) = rw (same_number number) refl
    own number (Running fetch) = refl

    others : (number m : ℕ) (out : SlotContent) → (m == number) ≡ false → filter (is_numbered number) (unspent_in m out) ≡ []
    others number m Nothing apart = refl
    others number m (Unspent fetch) apart = rw apart refl
    others number m (Running fetch) apart = refl

lists_running : Lists running_in
lists_running = record {
  own = λ number out. own number out;
  others = λ number m out apart. others number m out apart;
  none = λ number. refl;
}
  where
    own : (number : ℕ) (out : SlotContent) → filter (is_numbered number) (running_in number out) ≡ running_in number out
    own number Nothing = refl
    own number (Unspent fetch) = refl
    own number (Running fetch) = rw (same_number number) refl

    others : (number m : ℕ) (out : SlotContent) → (m == number) ≡ false → filter (is_numbered number) (running_in m out) ≡ []
    others number m Nothing apart = refl
    others number m (Unspent fetch) apart = refl
    others number m (Running fetch) apart = rw apart refl

pub lists_at : (stage : PermitState) → Lists (listed_in stage)
lists_at stages.Unspent = lists_unspent
lists_at stages.Running = lists_running
