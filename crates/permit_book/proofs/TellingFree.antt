-- A table and its lists are read alike, free slots and the next number included.
-- Used by `next_is_alike` and `readers_are_alike` of `laws.rt`, and by crates above.
use Rattle.std.proofs.Common.{◌≡◌, ℕ, ◌+◌, ◌<◌, ◌==◌, ◌&&◌, ◌||◌, Bool, true, false, cond, not, nat_lt, List, [], ◌∷◌, length, filter, inl, inr, refl, sym, ap, subst, ◌∙◌, true≢false, arith}
use Rattle.std.specs.List.{list_any}
use Rattle.std.specs.Str.{bytes_eq}
use Rattle.std.proofs.lemmas.Bool.{lt-ltb, le-ltb}
use Rattle.std.proofs.lemmas.Bool.Decides.{eqb_tells, leb_tells}
use Rattle.path_normal.specs.PageText.{authority_of}
use Rattle.permit_book.specs.declared.out.Fetch.{Fetch}
use Rattle.permit_book.specs.declared.out.SlotContent.{SlotContent}
use Rattle.permit_book.specs.declared.out.SlotContent.TheVariants.{Nothing, Unspent, Running}
use Rattle.permit_book.specs.declared.out.Slot.{Slot}
use Rattle.permit_book.specs.declared.granted_permit.GrantedPermit.{GrantedPermit}
use Rattle.permit_book.specs.Numbers.{slot_of, generation_of, number_in, last_generation, most_slots}
use Rattle.permit_book.specs.Table.{Table, is_fetch_of, is_nothing, is_out_for, is_permit_for, is_running, is_running_out, is_unspent, is_unspent_out, last_in, out_under, slot_at}
use Rattle.permit_book.specs.Next.{IsNext, NoneFree, generation_after, is_free_in}
use Rattle.permit_book.specs.Outstanding.{IsNextBy, NoneFreeBy, TellsPermits, fetch_of, holds_slot, is_free_by, is_listed, is_numbered, is_running_for, is_unspent_for, running_in, unspent_in}
use Rattle.permit_book.specs.Laws.{GreatestAlike, NextAlike, NoneFreeAlike, TellingReadsAlike}
use Rattle.permit_book.proofs.TableLaws.{one_if, free_there, same_number, running_there, unspent_there}
use Rattle.permit_book.proofs.Filters.{filter-all, found, list_any-both, list_any-filter, list_any-more}

pub number_parts : (slot generation : ℕ) → slot < most_slots →
    (slot_of (number_in slot generation) ≡ slot) × (generation_of (number_in slot generation) ≡ generation)
number_parts slot generation small = (omega arith, omega arith)

pub own_number : (t : Table) (slot : ℕ) → slot < most_slots → out_under t (number_in slot (last_in t slot)) ≡ (slot_at t slot).out
own_number t slot small =
    let parts = number_parts slot (last_in t slot) small in
    rw (parts.0, parts.1, same_number (last_in t slot)) refl

listed_unspent : (number : ℕ) (out : SlotContent) → list_any (λ _. true) (unspent_in number out) ≡ is_unspent_out out
listed_unspent number (Unspent fetch) = refl
listed_unspent number (Running fetch) = refl
listed_unspent number Nothing = refl

listed_running : (number : ℕ) (out : SlotContent) → list_any (λ _. true) (running_in number out) ≡ is_running_out out
listed_running number (Unspent fetch) = refl
listed_running number (Running fetch) = refl
listed_running number Nothing = refl

pub unspent_numbers : (t : Table) (unspent running : List GrantedPermit) (greatest : ℕ → ℕ) → TellsPermits t unspent running greatest →
    (number : ℕ) → is_unspent t number ≡ is_listed unspent number
unspent_numbers t unspent running greatest tells number =
    sym (list_any-filter (is_numbered number) unspent ∙ (ap (list_any (λ _. true)) (tells.unspent_under number) ∙ listed_unspent number (out_under t number)))

pub running_numbers : (t : Table) (unspent running : List GrantedPermit) (greatest : ℕ → ℕ) → TellsPermits t unspent running greatest →
    (number : ℕ) → is_running t number ≡ is_listed running number
running_numbers t unspent running greatest tells number =
    sym (list_any-filter (is_numbered number) running ∙ (ap (list_any (λ _. true)) (tells.running_under number) ∙ listed_running number (out_under t number)))

numbered_slot : (slot number : ℕ) → slot_of number ≡ slot → (p : GrantedPermit) → is_numbered number p ≡ true → (slot_of p.number == slot) ≡ true
numbered_slot slot number of p is = elim (eqb_tells p.number number) [
  | inl e ↦ rw (e.1, of) (same_number slot)
  | inr d ↦ absurd (true≢false (sym is ∙ d.0))
]

alike : (a b : Bool) → (a ≡ true → b ≡ true) → (b ≡ true → a ≡ true) → a ≡ b
alike true true there back = refl
alike false false there back = refl
alike true false there back = sym (there refl)
alike false true there back = back refl

equal : (a b : ℕ) → (a == b) ≡ true → a ≡ b
equal a b is = elim (eqb_tells a b) [ inl e ↦ e.1 | inr d ↦ absurd (true≢false (sym is ∙ d.0)) ]

holds_unspent : (t : Table) (unspent running : List GrantedPermit) (greatest : ℕ → ℕ) → TellsPermits t unspent running greatest →
    (slot : ℕ) → slot < most_slots → holds_slot unspent slot ≡ is_unspent_out (slot_at t slot).out
holds_unspent t unspent running greatest tells slot small = alike _ _ there back
  where
    there : holds_slot unspent slot ≡ true → is_unspent_out (slot_at t slot).out ≡ true
    there some =
        let one = found (λ p. slot_of p.number == slot) unspent some in
        let is : is_unspent t one.0.number ≡ true = unspent_numbers t unspent running greatest tells one.0.number ∙ one.2 in
        subst (λ s. is_unspent_out (slot_at t s).out ≡ true) (equal _ _ one.1) (unspent_there t one.0.number is).0

    back : is_unspent_out (slot_at t slot).out ≡ true → holds_slot unspent slot ≡ true
    back out =
        let number = number_in slot (last_in t slot) in
        let is : is_unspent t number ≡ true = ap is_unspent_out (own_number t slot small) ∙ out in
        list_any-more (is_numbered number) (λ p. slot_of p.number == slot) unspent
        (numbered_slot slot number (number_parts slot (last_in t slot) small).0)
        (sym (unspent_numbers t unspent running greatest tells number) ∙ is)

holds_running : (t : Table) (unspent running : List GrantedPermit) (greatest : ℕ → ℕ) → TellsPermits t unspent running greatest →
    (slot : ℕ) → slot < most_slots → holds_slot running slot ≡ is_running_out (slot_at t slot).out
holds_running t unspent running greatest tells slot small = alike _ _ there back
  where
    there : holds_slot running slot ≡ true → is_running_out (slot_at t slot).out ≡ true
    there some =
        let one = found (λ p. slot_of p.number == slot) running some in
        let is : is_running t one.0.number ≡ true = running_numbers t unspent running greatest tells one.0.number ∙ one.2 in
        subst (λ s. is_running_out (slot_at t s).out ≡ true) (equal _ _ one.1) (running_there t one.0.number is).1

    back : is_running_out (slot_at t slot).out ≡ true → holds_slot running slot ≡ true
    back out =
        let number = number_in slot (last_in t slot) in
        let is : is_running t number ≡ true = ap is_running_out (own_number t slot small) ∙ out in
        list_any-more (is_numbered number) (λ p. slot_of p.number == slot) running
        (numbered_slot slot number (number_parts slot (last_in t slot) small).0)
        (sym (running_numbers t unspent running greatest tells number) ∙ is)

pub free_alike : (t : Table) (unspent running : List GrantedPermit) (greatest : ℕ → ℕ) → TellsPermits t unspent running greatest →
    (slot : ℕ) → slot < length t.slots → is_free_in t slot ≡ is_free_by unspent running greatest slot
free_alike t unspent running greatest tells slot inside =
    let small : slot < most_slots = (let few = tells.within.slots in omega arith) in
    rw (
      lt-ltb slot (length t.slots) inside,
      holds_unspent t unspent running greatest tells slot small,
      holds_running t unspent running greatest tells slot small,
      ← tells.last slot inside,
    )
    (by (slot_at t slot).out)
  where
    by : (out : SlotContent) → (is_nothing out && nat_lt (last_in t slot) last_generation)
        ≡ (not (is_unspent_out out || is_running_out out) && nat_lt (last_in t slot) last_generation)
    by Nothing = refl
    by (Unspent fetch) = refl
    by (Running fetch) = refl

pub next_alike : NextAlike
next_alike t unspent running greatest number tells = (there, back)
  where
    alike_at : (slot : ℕ) → slot < length t.slots → is_free_in t slot ≡ is_free_by unspent running greatest slot
    alike_at = free_alike t unspent running greatest tells

    there : IsNext t number → IsNextBy (length t.slots) t.first_generation unspent running greatest number
    there next =
        let inside = (free_there t (slot_of number) next.free).0 in
        record {
          in_range = inside;
          free = sym (alike_at (slot_of number) inside) ∙ next.free;
          lowest = λ slot below. sym (alike_at slot (omega arith)) ∙ next.lowest slot below;
          generation = next.generation ∙ ap (generation_after t.first_generation) (tells.last (slot_of number) inside);
        }

    back : IsNextBy (length t.slots) t.first_generation unspent running greatest number → IsNext t number
    back next = record {
      free = alike_at (slot_of number) next.in_range ∙ next.free;
      lowest = λ slot below. alike_at slot (let inside = next.in_range in omega arith) ∙ next.lowest slot below;
      generation = next.generation ∙ ap (generation_after t.first_generation) (sym (tells.last (slot_of number) next.in_range));
    }

pub none_free_alike : NoneFreeAlike
none_free_alike t unspent running greatest tells = (there, back)
  where
    there : NoneFree t → NoneFreeBy (length t.slots) unspent running greatest
    there none = λ slot inside. sym (free_alike t unspent running greatest tells slot inside) ∙ none slot

    back : NoneFreeBy (length t.slots) unspent running greatest → NoneFree t
    back none = λ slot. elim (leb_tells (length t.slots) slot) [
      | inl e ↦ rw (le-ltb slot (length t.slots) e.1) refl
      | inr d ↦ (free_alike t unspent running greatest tells slot d.1 ∙ none slot d.1)
    ]

filter-same : {X : Type 0} (p q : X → Bool) (xs : List X) → ((x : X) → p x ≡ q x) → filter p xs ≡ filter q xs
filter-same p q xs same = ap (λ test. filter test xs) (λ i x. same x i)

count-cons : {X : Type 0} (test : X → Bool) (x : X) (xs : List X) →
    length (filter test (x ∷ xs)) ≡ one_if (test x) + length (filter test xs)
count-cons test x xs = by (test x)
  where
    by : (b : Bool) → length (cond b (x ∷ filter test xs) (filter test xs)) ≡ one_if b + length (filter test xs)
    by true = omega arith
    by false = omega arith

count-parts : {X : Type 0} (all first second : X → Bool) → ((x : X) → one_if (all x) ≡ one_if (first x) + one_if (second x)) →
    (xs : List X) → length (filter all xs) ≡ length (filter first xs) + length (filter second xs)
count-parts all first second parts [] = refl
count-parts all first second parts (x ∷ xs) =
    let rest = count-parts all first second parts xs in
    let here = parts x in
    omega (arith, count-cons all x xs, count-cons first x xs, count-cons second x xs)

held_part : (authority : List ℕ) (out : SlotContent) → one_if (is_out_for authority out)
    ≡ one_if (is_unspent_for (λ fetch. bytes_eq (authority_of fetch.url) authority) out)
    + one_if (is_running_for (λ fetch. bytes_eq (authority_of fetch.url) authority) out)
held_part authority (Unspent fetch) = omega arith
held_part authority (Running fetch) = omega arith
held_part authority Nothing = refl

any_unspent : (out : SlotContent) → is_unspent_out out ≡ is_unspent_for (λ _. true) out
any_unspent (Unspent fetch) = refl
any_unspent (Running fetch) = refl
any_unspent Nothing = refl

any_running : (out : SlotContent) → is_running_out out ≡ is_running_for (λ _. true) out
any_running (Unspent fetch) = refl
any_running (Running fetch) = refl
any_running Nothing = refl

pub reads_alike : TellingReadsAlike
reads_alike t unspent running greatest tells = record {
  unspent_numbers = unspent_numbers t unspent running greatest tells;
  running_numbers = running_numbers t unspent running greatest tells;
  permits = λ number token url.
      sym (list_any-both (is_numbered number) (λ p. is_fetch_of token url (fetch_of p)) unspent
      ∙ (ap (list_any (λ p. is_fetch_of token url (fetch_of p))) (tells.unspent_under number) ∙ one number token url (out_under t number)));
  held = λ authority.
      let test : Fetch → Bool = λ fetch. bytes_eq (authority_of fetch.url) authority in
      let parts = count-parts (λ (slot : Slot). is_out_for authority slot.out) (λ slot. is_unspent_for test slot.out)
      (λ slot. is_running_for test slot.out) (λ slot. held_part authority slot.out) t.slots in
      let unspent_part = tells.unspent_for test in let running_part = tells.running_for test in omega arith;
  unspent_many =
      ap length (filter-same (λ (slot : Slot). is_unspent_out slot.out) (λ slot. is_unspent_for (λ _. true) slot.out) t.slots (λ slot. any_unspent slot.out))
      ∙ (sym (tells.unspent_for (λ _. true)) ∙ ap length (filter-all unspent));
  running_many =
      ap length (filter-same (λ (slot : Slot). is_running_out slot.out) (λ slot. is_running_for (λ _. true) slot.out) t.slots (λ slot. any_running slot.out))
      ∙ (sym (tells.running_for (λ _. true)) ∙ ap length (filter-all running));
}
  where
    one : (number : ℕ) (token url : List ℕ) (out : SlotContent) → list_any (λ p. is_fetch_of token url (fetch_of p)) (unspent_in number out) ≡ is_permit_for token url out
    one number token url (Unspent fetch) = or_false (is_fetch_of token url fetch)
      where
        or_false : (b : Bool) → (b || false) ≡ b
        or_false true = refl
        or_false false = refl
    one number token url (Running fetch) = refl
    one number token url Nothing = refl

pub greatest_alike : GreatestAlike
greatest_alike t unspent running greatest others tells same = record {
  within = tells.within;
  last = λ slot inside. tells.last slot inside ∙ sym (same slot);
  unspent_under = tells.unspent_under;
  running_under = tells.running_under;
  unspent_for = tells.unspent_for;
  running_for = tells.running_for;
}
