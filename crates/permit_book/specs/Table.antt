-- What contracts see of the permits: a table of slots, and what numbers have outstanding.
-- Used by `Permits`.
use Rattle.std.specs.Prelude.{ℕ, ◌==◌, Bool, true, false, ◌&&◌, nat_lt, max, List, Option, Some, None, if◌then◌else◌, length, slice_index_or, slice_set, filter}
use Rattle.std.specs.Str.{bytes_eq}
use Rattle.path_normal.specs.PageText.{authority_of}
use Rattle.permit_book.specs.declared.out.Fetch.{Fetch}
use Rattle.permit_book.specs.declared.out.SlotContent.{SlotContent}
use Rattle.permit_book.specs.declared.out.SlotContent.TheVariants.{Nothing, Unspent, Running}
use Rattle.permit_book.specs.declared.out.Slot.{Slot}
use Rattle.permit_book.specs.Numbers.{slot_of, generation_of, last_generation}

-- the slots, and the generation of each one's first grant
pub record Table : Type 0 where
  pub first_generation : ℕ
  pub slots : List Slot

-- a slot in which nothing was granted
abbrev pub unused : Slot
unused = record { last = 0; out = Nothing }

-- the slot of this place
abbrev pub slot_at : Table → ℕ → Slot
slot_at t slot = slice_index_or t.slots slot unused

-- the generation of the slot's last grant, or 0
abbrev pub last_in : Table → ℕ → ℕ
last_in t slot = (slot_at t slot).last

-- what is outstanding under the number: its slot's, if that slot's last grant has it
abbrev pub out_under : Table → ℕ → SlotContent
out_under t number =
    if last_in t (slot_of number) == generation_of number then (slot_at t (slot_of number)).out else Nothing

-- the table with this outstanding under the number, its slot's last grant
abbrev pub with_out : Table → ℕ → SlotContent → Table
with_out t number out = record {
  first_generation = t.first_generation;
  slots = slice_set t.slots (slot_of number) (record { last = generation_of number; out = out });
}

-- the table with a noted earlier grant: its slot's last generation is no less, and permits stay
abbrev pub noted : Table → ℕ → ℕ → Table
noted t slot generation = record {
  first_generation = t.first_generation;
  slots = slice_set t.slots slot (record { last = max (last_in t slot) generation; out = (slot_at t slot).out });
}

-- an unspent permit is outstanding
abbrev pub is_unspent_out : SlotContent → Bool
is_unspent_out (Unspent fetch) = true
is_unspent_out _ = false

-- a running fetch is outstanding
abbrev pub is_running_out : SlotContent → Bool
is_running_out (Running fetch) = true
is_running_out _ = false

-- nothing is outstanding
abbrev pub is_nothing : SlotContent → Bool
is_nothing Nothing = true
is_nothing _ = false

-- the number has an unspent permit
abbrev pub is_unspent : Table → ℕ → Bool
is_unspent t number = is_unspent_out (out_under t number)

-- the number has a running fetch
abbrev pub is_running : Table → ℕ → Bool
is_running t number = is_running_out (out_under t number)

-- the fetch has this token and this URL
abbrev pub is_fetch_of : List ℕ → List ℕ → Fetch → Bool
is_fetch_of token url fetch = bytes_eq fetch.token token && bytes_eq fetch.url url

-- an unspent permit for this token and URL
abbrev pub is_permit_for : List ℕ → List ℕ → SlotContent → Bool
is_permit_for token url (Unspent fetch) = is_fetch_of token url fetch
is_permit_for token url _ = false

-- the number has an unspent permit for this token and URL
abbrev pub stands : Table → ℕ → List ℕ → List ℕ → Bool
stands t number token url = is_permit_for token url (out_under t number)

-- a decided permit: if allowed it runs, if denied nothing is outstanding
abbrev pub decided : Bool → SlotContent → SlotContent
decided true (Unspent fetch) = Running fetch
decided _ _ = Nothing

-- the slot with nothing outstanding
abbrev pub vacated : Slot → Slot
vacated slot = record { last = slot.last; out = Nothing }

-- a free slot: nothing outstanding, and its last generation not granted
abbrev pub is_free : Slot → Bool
is_free slot = is_nothing slot.out && nat_lt slot.last last_generation

-- the count of unspent permits
abbrev pub unspent_count : Table → ℕ
unspent_count t = length (filter (λ slot. is_unspent_out slot.out) t.slots)

-- how many fetches are running
abbrev pub running_count : Table → ℕ
running_count t = length (filter (λ slot. is_running_out slot.out) t.slots)

-- a permit for a page of this authority is outstanding
abbrev pub is_out_for : List ℕ → SlotContent → Bool
is_out_for authority (Unspent fetch) = bytes_eq (authority_of fetch.url) authority
is_out_for authority (Running fetch) = bytes_eq (authority_of fetch.url) authority
is_out_for authority Nothing = false

-- the authority's outstanding permits, unspent or running
abbrev pub held_count : Table → List ℕ → ℕ
held_count t authority = length (filter (λ slot. is_out_for authority slot.out) t.slots)

-- the URL of what is outstanding
abbrev pub url_out : SlotContent → Option (List ℕ)
url_out (Unspent fetch) = Some fetch.url
url_out (Running fetch) = Some fetch.url
url_out Nothing = None

-- 1 for a permit of this authority, else 0
abbrev pub one_for : List ℕ → SlotContent → ℕ
one_for authority out = if is_out_for authority out then 1 else 0
