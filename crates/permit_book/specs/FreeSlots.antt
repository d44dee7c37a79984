-- The invariant of free slots: each level of words summarizes the one below.
-- The invariant of `free_slots.rt`.
use Rattle.std.specs.Prelude.{◌≡◌, ◌*◌, ◌≤◌, length}
use Rattle.permit_book.specs.declared.free_slots.FreeSlots.TheInside.{Inside}
use Rattle.permit_book.specs.Bits.{Summarizes}

-- the upper levels summarize the words below, with a bit for each
pub record IsSummedUp (free : Inside) : Type 0 where
  pub middle : Summarizes free.middle.items free.low.items
  pub top : Summarizes free.top free.middle.items
  pub words : length free.low.items ≤ 64 * length free.middle.items
  pub few : length free.middle.items ≤ 64
  pub one : length free.top ≡ 1
