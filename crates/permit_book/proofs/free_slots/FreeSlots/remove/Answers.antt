-- A bit is cleared, and each level above checks whether the word below it is now 0.
use Rattle.std.proofs.Common.{◌/◌, rules}
use Rattle.std.proofs.lemmas.List.{with_items_is}
use Rattle.permit_book.specs.Bits.{KeepsEmpty, KeepsOthers, SumsUp}
use Rattle.permit_book.proofs.BitLaws.{Summarizes-lowered}
use Rattle.permit_book.proofs.free_slots.FreeSlots.remove.Goals as goal

pub invariant_of-self : goal.invariant_of-self
invariant_of-self c =
    let low = with_items_is c.self.inside.low c.clear_bit.new.words (search rules) in
    let middle = with_items_is c.self.inside.middle c.sum_up.new.upper (search rules) in
    let low_others : KeepsOthers c.self.inside.low.items (c.args.slot / 64) c.clear_bit.new.words = rw (← c.deref_mut.ensures.value) c.clear_bit.ensures.others in
    let low_empty : KeepsEmpty c.self.inside.low.items (c.args.slot / 64) c.clear_bit.new.words = rw (← c.deref_mut.ensures.value) c.clear_bit.ensures.empty in
    let middle_bits : SumsUp c.self.inside.middle.items c.clear_bit.new.words (c.args.slot / 64) c.sum_up.new.upper =
    rw (← c.deref_mut-2.ensures.value, ← low, ← c.deref.ensures.value) c.sum_up.ensures.bits in
    let middle_others : KeepsOthers c.self.inside.middle.items (c.args.slot / 64 / 64) c.sum_up.new.upper = rw (← c.deref_mut-2.ensures.value) c.sum_up.ensures.others in
    let middle_empty : KeepsEmpty c.self.inside.middle.items (c.args.slot / 64 / 64) c.sum_up.new.upper = rw (← c.deref_mut-2.ensures.value) c.sum_up.ensures.empty in
    let top_bits : SumsUp c.self.inside.top c.sum_up.new.upper (c.args.slot / 64 / 64) c.sum_up-2.new.upper = rw (← middle, ← c.deref-2.ensures.value) c.sum_up-2.ensures.bits in
    record {
      middle = rw (low, middle) (Summarizes-lowered _ _ _ _ (c.args.slot / 64) c.self.invariant.middle low_others low_empty middle_bits);
      top = rw middle (Summarizes-lowered _ _ _ _ (c.args.slot / 64 / 64) c.self.invariant.top middle_others middle_empty top_bits);
      words = rw (low, middle) (search rules);
      few = rw middle (search rules);
      one = search rules;
    }
