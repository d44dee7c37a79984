-- The bits of all three levels are set, so each level summarizes the one below.
use Rattle.std.proofs.Common.{◌/◌, rules}
use Rattle.std.proofs.lemmas.List.{with_items_is}
use Rattle.permit_book.specs.Bits.{KeepsOthers, SetsBit}
use Rattle.permit_book.proofs.BitLaws.{Summarizes-set}
use Rattle.permit_book.proofs.free_slots.FreeSlots.insert.Goals as goal

pub invariant_of-self : goal.invariant_of-self
invariant_of-self c =
    let low = with_items_is c.self.inside.low c.set_bit.new.words (search rules) in
    let middle = with_items_is c.self.inside.middle c.set_bit-2.new.words (search rules) in
    let low_bits : SetsBit c.self.inside.low.items c.args.slot 1 c.set_bit.new.words = rw (← c.deref_mut.ensures.value) c.set_bit.ensures.bits in
    let low_others : KeepsOthers c.self.inside.low.items (c.args.slot / 64) c.set_bit.new.words = rw (← c.deref_mut.ensures.value) c.set_bit.ensures.others in
    let middle_bits : SetsBit c.self.inside.middle.items (c.args.slot / 64) 1 c.set_bit-2.new.words = rw (← c.deref_mut-2.ensures.value) c.set_bit-2.ensures.bits in
    let middle_others : KeepsOthers c.self.inside.middle.items (c.args.slot / 64 / 64) c.set_bit-2.new.words = rw (← c.deref_mut-2.ensures.value) c.set_bit-2.ensures.others in
    record {
      middle = rw (low, middle) (Summarizes-set _ _ _ _ c.args.slot c.self.invariant.middle low_bits low_others middle_bits);
      top = rw middle (Summarizes-set _ _ _ _ (c.args.slot / 64) c.self.invariant.top middle_bits middle_others c.set_bit-3.ensures.bits);
      words = rw (low, middle) (search rules);
      few = rw middle (search rules);
      one = search rules;
    }
