-- Tables with nothing outstanding, and earlier grants noted in them.
-- Used by `idle_tables_tell` of `laws.rt`, and by crates above.
use Rattle.std.proofs.Common.{◌≡◌, ℕ, ◌<◌, ◌==◌, true, max, if◌then◌else◌, List, [], length, inl, inr, refl, sym, ap, subst, ◌∙◌, arith}
use Rattle.std.proofs.lemmas.Bool.Decides.{leb_tells}
use Rattle.std.proofs.lemmas.List.{get_or_past}
use Rattle.permit_book.specs.declared.out.SlotContent.{SlotContent}
use Rattle.permit_book.specs.declared.out.SlotContent.TheVariants.{Nothing, Unspent, Running}
use Rattle.permit_book.specs.declared.granted_permit.GrantedPermit.{GrantedPermit}
use Rattle.permit_book.specs.Numbers.{generation_of, number_in, slot_of}
use Rattle.permit_book.specs.Table.{Table, is_nothing, last_in, noted, out_under, slot_at, unused, with_out}
use Rattle.permit_book.specs.Outstanding.{TellsPermits, running_in, unspent_in}
use Rattle.permit_book.specs.Laws.{IdleIsEmpty, NoteTells}
use Rattle.permit_book.proofs.Telling.{Changes-nothing, nothing_is, nothing_under, step, unequal}
use Rattle.permit_book.proofs.TellingFree.{number_parts, own_number}
use Rattle.permit_book.proofs.TableLaws.{same_number}

neither : (number : ℕ) (out : SlotContent) → [] ≡ unspent_in number out → [] ≡ running_in number out → is_nothing out ≡ true
neither number Nothing unspent running = refl
neither number (Unspent fetch) unspent running = absurd (omega (arith, ap (λ (ps : List GrantedPermit). length ps) unspent))
neither number (Running fetch) unspent running = absurd (omega (arith, ap (λ (ps : List GrantedPermit). length ps) running))

pub idle_empty : IdleIsEmpty
idle_empty t greatest slot tells = elim (leb_tells (length t.slots) slot) [
  | inl e ↦ ap (λ s. is_nothing s.out) (get_or_past t.slots slot unused e.1)
  | inr d ↦ (let number = number_in slot (last_in t slot) in
      let few = tells.within.slots in
      let own : out_under t number ≡ (slot_at t slot).out = own_number t slot (omega (arith, few, d.1)) in
      subst (λ o. is_nothing o ≡ true) own (neither number (out_under t number) (tells.unspent_under number) (tells.running_under number)))
]

pub noted_tells : NoteTells
noted_tells t unspent running greatest slot generation tells inside nothing =
    subst (λ (u : Table). TellsPermits u unspent running (λ other. max (if slot == other then generation else 0) (greatest other))) (sym is)
    (step t unspent running unspent running greatest _ n Nothing Nothing tells (rw parts.0 inside) (ap (λ s. (slot_at t s).out) parts.0 ∙ out_is)
    (λ m same apart. empty m same)
    (Changes-nothing unspent n [] (tells.unspent_under n ∙ ap (unspent_in n) (empty n refl)))
    (Changes-nothing running n [] (tells.running_under n ∙ ap (running_in n) (empty n refl)))
    far near)
  where
    n : ℕ
    n = number_in slot (max (last_in t slot) generation)

    parts : (slot_of n ≡ slot) × (generation_of n ≡ max (last_in t slot) generation)
    parts = number_parts slot (max (last_in t slot) generation) (let few = tells.within.slots in omega (arith, few, inside))

    out_is : (slot_at t slot).out ≡ Nothing
    out_is = nothing_is (slot_at t slot).out nothing

    is : noted t slot generation ≡ with_out t n Nothing
    is = rw (parts.0, parts.1, out_is) refl

    empty : (m : ℕ) → slot_of m ≡ slot_of n → out_under t m ≡ Nothing
    empty m same = nothing_under t m (subst (λ s. is_nothing (slot_at t s).out ≡ true) (sym (same ∙ parts.0)) nothing)

    far : (other : ℕ) → other < length t.slots → ((same : other ≡ slot_of n) → ⊥) → max (if slot == other then generation else 0) (greatest other) ≡ greatest other
    far other low apart = rw (unequal (λ same. apart (sym same ∙ sym parts.0))) (omega arith)

    near : max (if slot == slot_of n then generation else 0) (greatest (slot_of n)) ≡ generation_of n
    near = rw (parts.0, parts.1, same_number slot) (let last = tells.last slot inside in omega (arith, last))
