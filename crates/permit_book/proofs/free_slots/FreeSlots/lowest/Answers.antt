-- The lowest bit of each level leads to the word below it.
use Rattle.std.proofs.Common.{◌≡◌, ◌/◌, ◌<◌, ℕ, arith}
use Rattle.permit_book.specs.Bits.{bit_of, IsLowestBit}
use Rattle.permit_book.proofs.BitLaws.{IsClear-below, IsClear-one_word, IsLowestBit-below}
use Rattle.permit_book.proofs.free_slots.FreeSlots.lowest.Goals as goal

pub returns-then-self-eq0 : goal.returns-then-self-eq0
returns-then-self-eq0 c =
    let top = IsClear-one_word c.self.inside.top c.self.invariant.one c.if-self-eq0.true in
    let middle = IsClear-below _ c.self.inside.middle.items c.self.invariant.top top in
    rw (← c.self.view_is) (IsClear-below _ c.self.inside.low.items c.self.invariant.middle middle)

pub returns : goal.returns
returns c =
    let inside = c.self.inside in
    let top : IsLowestBit inside.top c.lowest_in-middle.result = record {
      set = c.lowest_in-middle.ensures.set;
      lowest = λ j below. c.lowest_in-middle.ensures.lowest j (let word = c.lowest_in-middle.ensures.word in omega arith) below;
    } in
    let middle_set : bit_of inside.middle.items c.lowest_in-low.result ≡ 1 = rw (← c.deref.ensures.value) c.lowest_in-low.ensures.set in
    let middle_least : (j : ℕ) → j / 64 ≡ c.lowest_in-middle.result → j < c.lowest_in-low.result → bit_of inside.middle.items j ≡ 0 =
    rw (← c.deref.ensures.value) c.lowest_in-low.ensures.lowest in
    let middle = IsLowestBit-below _ _ _ c.lowest_in-low.result c.self.invariant.top top c.lowest_in-low.ensures.word middle_set middle_least in
    let low_set : bit_of inside.low.items c.lowest_in.result ≡ 1 = rw (← c.deref-2.ensures.value) c.lowest_in.ensures.set in
    let low_least : (j : ℕ) → j / 64 ≡ c.lowest_in-low.result → j < c.lowest_in.result → bit_of inside.low.items j ≡ 0 =
    rw (← c.deref-2.ensures.value) c.lowest_in.ensures.lowest in
    rw (← c.self.view_is) (IsLowestBit-below _ _ _ c.lowest_in.result c.self.invariant.middle middle c.lowest_in.ensures.word low_set low_least)
