-- The invariant of tables: limits, and free slots and counts that match the slots.
-- The invariant of `permits.rt`.
use Rattle.std.specs.Prelude.{◌≡◌, ℕ, ◌*◌, ◌≤◌, ◌==◌, ◌&&◌, List, if◌then◌else◌, length, slice_index_or, slice_set}
use Rattle.permit_book.specs.declared.out.Slot.{Slot}
use Rattle.permit_book.specs.declared.permits.Permits.TheInside.{Inside}
use Rattle.permit_book.specs.Numbers.{most_slots, last_generation}
use Rattle.permit_book.specs.Bits.{bit_of}
use Rattle.permit_book.specs.Table.{Table, is_free, last_in, running_count, unspent_count, unused, vacated}
use Rattle.permit_book.specs.Next.{is_free_in}

-- the table as its callers see it
abbrev pub table_of : Inside → Table
table_of p = record { first_generation = p.first_generation; slots = p.slots.items }

-- the set bits are those of the free slots
abbrev pub ShowsFree : List ℕ → Table → Type 0
ShowsFree bits t = (slot : ℕ) → bit_of bits slot ≡ (if is_free_in t slot then 1 else 0)

-- the slot at this place is idle now, and free unless it is retired
pub record Vacates (old : List Slot) (bits : List ℕ) (place : ℕ) (new : List Slot) (bits' : List ℕ) : Type 0 where
  pub slots : new ≡ slice_set old place (vacated (slice_index_or old place unused))
  pub free : (slot : ℕ) → bit_of bits' slot ≡
      (if slot == place && is_free (vacated (slice_index_or old place unused)) then 1 else bit_of bits slot)
  pub room : length bits' ≡ length bits

-- the limits of a table
pub record IsWithin (t : Table) : Type 0 where
  pub some_generation : 1 ≤ t.first_generation
  pub generations : t.first_generation ≤ last_generation
  pub slots : length t.slots ≤ most_slots

-- the free slots and the counts are the table's, and no generation is above the last
pub record IsKept (t : Table) (bits : List ℕ) (unspent running : ℕ) : Type 0 where
  pub within : IsWithin t
  pub free : ShowsFree bits t
  pub room : length t.slots ≤ 64 * length bits
  pub unspent_is : unspent ≡ unspent_count t
  pub running_is : running ≡ running_count t
  pub lasts : (slot : ℕ) → last_in t slot ≤ last_generation

-- the invariant of a table of permits
abbrev pub IsSound : Inside → Type 0
IsSound p = IsKept (table_of p) p.free p.unspent p.running
