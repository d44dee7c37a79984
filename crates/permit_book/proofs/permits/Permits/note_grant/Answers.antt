-- The slot is idle, and free unless its last generation was granted.
use Rattle.std.proofs.Common.{◌≡◌, ◌<◌, true, length, refl, sym, ap, subst, ◌∙◌, arith}
use Rattle.std.proofs.lemmas.List.{get_or_read}
use Rattle.permit_book.specs.declared.out.Slot.{Slot}
use Rattle.permit_book.specs.Numbers.{last_generation}
use Rattle.permit_book.specs.Bits.{SetsBit}
use Rattle.permit_book.specs.Table.{Table, is_nothing, last_in, slot_at, unused}
use Rattle.permit_book.specs.Kept.{IsKept, table_of}
use Rattle.permit_book.proofs.BitLaws.{SetsBit-other, SetsBit-here}
use Rattle.permit_book.proofs.TableLaws.{IsKept-noted, free_before, with_slot}
use Rattle.permit_book.proofs.permits.Permits.note_grant.Goals as goal

pub invariant_of-self : goal.invariant_of-self
invariant_of-self c =
    let p = c.self.inside in
    let t = table_of p in
    let place = c.args.slot in
    let within : place < length t.slots = subst (λ (t : Table). place < length t.slots) (sym c.self.view_is) c.requires.slot in
    let nothing : is_nothing (slot_at t place).out ≡ true = subst (λ (t : Table). is_nothing (slot_at t place).out ≡ true) (sym c.self.view_is) c.requires.idle in
    let read : c.index_mut.result.now ≡ slot_at t place = get_or_read p.slots.items place c.index_mut.result.now within c.index_mut.ensures.value unused in
    let last : c.max-last.result ≡ last_generation = c.if-last-eq-LAST_GENERATION.true in
    let taken : SetsBit p.free place 0 c.remove.new.self = c.remove.ensures.bits in
    subst (λ (s : Slot). IsKept (with_slot t place (record { last = c.max-last.result; out = s.out })) c.remove.new.self p.unspent p.running) (sym read)
    (IsKept-noted t p.free c.remove.new.self p.unspent p.running place c.max-last.result c.self.invariant within nothing (omega (arith, last))
    (SetsBit-other _ _ place 0 taken) (SetsBit-here _ _ place 0 taken ∙ rw last refl) c.remove.ensures.room)

pub invariant_of-self-else-last-eq-LAST_GENERATION : goal.invariant_of-self-else-last-eq-LAST_GENERATION
invariant_of-self-else-last-eq-LAST_GENERATION c =
    let p = c.self.inside in
    let t = table_of p in
    let place = c.args.slot in
    let within : place < length t.slots = subst (λ (t : Table). place < length t.slots) (sym c.self.view_is) c.requires.slot in
    let nothing : is_nothing (slot_at t place).out ≡ true = subst (λ (t : Table). is_nothing (slot_at t place).out ≡ true) (sym c.self.view_is) c.requires.idle in
    let read : c.index_mut.result.now ≡ slot_at t place = get_or_read p.slots.items place c.index_mut.result.now within c.index_mut.ensures.value unused in
    let first : c.index.result.now ≡ slot_at t place = get_or_read p.slots.items place c.index.result.now within c.index.ensures unused in
    let same : c.index.result.now.last ≡ last_in t place = ap (λ (s : Slot). s.last) first in
    let most = c.self.invariant.lasts place in
    let last : c.max-last.result < last_generation = omega (arith, c.max-last.ensures, c.if-last-eq-LAST_GENERATION.false, c.requires.generation, same, most) in
    subst (λ (s : Slot). IsKept (with_slot t place (record { last = c.max-last.result; out = s.out })) p.free p.unspent p.running) (sym read)
    (IsKept-noted t p.free p.free p.unspent p.running place c.max-last.result c.self.invariant within nothing (omega (arith, last))
    (λ j apart. refl) (free_before t p.free p.unspent p.running place c.max-last.result c.self.invariant within nothing (omega (arith, c.max-last.ensures, same)) last) refl)
