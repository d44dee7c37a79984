-- The capacity to read a text: whether memory runs out, or the crate `url` overflows.
-- Cited by `page_url`, `authority`, redirects and command lines.
use Rattle.std.specs.Prelude.{◌≡◌, ◌⊎◌, Result, Ok, Err}
use Rattle.path_normal.specs.declared.fault.Unread.{Unread}
use Rattle.path_normal.specs.declared.fault.Unread.TheVariants as unread
use Rattle.path_normal.specs.declared.fault.UrlFault.{UrlFault}
use Rattle.path_normal.specs.declared.fault.UrlFault.TheVariants.{NoMemory, TooLong}

-- enough; too little for the crate `url`, which overflows at 4 GB, though its contract allows it for any text; or too
-- little memory
pub data Capacity : Type 0 where
  Enough : Capacity
  Overflows : Capacity
  Refused : Capacity

-- the result of what allocates, or the fault if memory is refused
abbrev pub unless_refused : {A F : Type 0} → F → Result A F → Capacity → Result A F
unless_refused fault result Refused = Err fault
unless_refused fault result _ = result

-- the result with enough capacity, or a fault with too little
abbrev pub IsRead : {A F : Type 0} → Result A F → (Capacity → Result A F) → Type 0
IsRead (Ok value) reading = reading Enough ≡ Ok value
IsRead (Err fault) reading =
    (reading Enough ≡ Err fault) ⊎ (reading Overflows ≡ Err fault) ⊎ (reading Refused ≡ Err fault)

-- the fault of an unread text
abbrev pub fault_of_unread : Unread → UrlFault
fault_of_unread (unread.Fault fault) = fault
fault_of_unread unread.Overflow = TooLong
fault_of_unread unread.NoMemory = NoMemory

-- the result with the capacity that it shows: a page or a fault of the text with enough
abbrev pub IsReadWith : {A : Type 0} → Result A Unread → (Capacity → Result A UrlFault) → Type 0
IsReadWith (Ok value) reading = reading Enough ≡ Ok value
IsReadWith (Err (unread.Fault fault)) reading = reading Enough ≡ Err fault
IsReadWith (Err unread.Overflow) reading = reading Overflows ≡ Err TooLong
IsReadWith (Err unread.NoMemory) reading = reading Refused ≡ Err NoMemory
