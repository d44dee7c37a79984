-- What is outstanding by a history's lists: its unspent and running permits, and each slot's greatest generation; and
-- a table that agrees with them.
-- Used by `Permits`, and by the contracts of the book.
use Rattle.std.specs.Prelude.{◌≡◌, ℕ, ◌<◌, ◌==◌, Bool, true, false, not, ◌&&◌, ◌||◌, nat_lt, List, [], ◌∷◌, if◌then◌else◌, length, filter}
use Rattle.std.specs.List.{list_any}
use Rattle.std.specs.Str.{bytes_eq}
use Rattle.path_normal.specs.PageText.{authority_of}
use Rattle.permit_book.specs.declared.out.Fetch.{Fetch}
use Rattle.permit_book.specs.declared.out.SlotContent.{SlotContent}
use Rattle.permit_book.specs.declared.out.SlotContent.TheVariants.{Unspent, Running}
use Rattle.permit_book.specs.declared.granted_permit.GrantedPermit.{GrantedPermit}
use Rattle.permit_book.specs.declared.listing.PermitState.{PermitState}
use Rattle.permit_book.specs.declared.listing.PermitState.TheVariants as stages
use Rattle.permit_book.specs.Numbers.{slot_of, generation_of, last_generation}
use Rattle.permit_book.specs.Table.{Table, is_fetch_of, last_in, out_under}
use Rattle.permit_book.specs.Next.{generation_after}
use Rattle.permit_book.specs.Kept.{IsWithin}

-- the permit has this number
abbrev pub is_numbered : ℕ → GrantedPermit → Bool
is_numbered number p = p.number == number

-- the permit's fetch
abbrev pub fetch_of : GrantedPermit → Fetch
fetch_of p = record { token = p.token; url = p.url }

-- the permit of this number for a fetch
abbrev pub permit_for : ℕ → Fetch → GrantedPermit
permit_for number fetch = record { number = number; token = fetch.token; url = fetch.url }

-- the number's permit, if unspent
abbrev pub unspent_in : ℕ → SlotContent → List GrantedPermit
unspent_in number (Unspent fetch) = permit_for number fetch ∷ []
unspent_in number _ = []

-- the number's permit, if running
abbrev pub running_in : ℕ → SlotContent → List GrantedPermit
running_in number (Running fetch) = permit_for number fetch ∷ []
running_in number _ = []

-- the number's permit, if at this stage
abbrev pub listed_in : PermitState → ℕ → SlotContent → List GrantedPermit
listed_in stages.Unspent = unspent_in
listed_in stages.Running = running_in

-- the list has each number's permits
abbrev pub ListsEach : (ℕ → List GrantedPermit) → List GrantedPermit → Type 0
ListsEach permits_of permits = (number : ℕ) → filter (is_numbered number) permits ≡ permits_of number

-- the list has each permit at this stage once
abbrev pub ListsAt : PermitState → Table → List GrantedPermit → Type 0
ListsAt stage t = ListsEach (λ number. listed_in stage number (out_under t number))

-- the list has each unspent permit once
abbrev pub ListsUnspent : Table → List GrantedPermit → Type 0
ListsUnspent = ListsAt stages.Unspent

-- the list has each running permit once
abbrev pub ListsRunning : Table → List GrantedPermit → Type 0
ListsRunning = ListsAt stages.Running

-- an unspent permit whose fetch passes the test
abbrev pub is_unspent_for : (Fetch → Bool) → SlotContent → Bool
is_unspent_for test (Unspent fetch) = test fetch
is_unspent_for test _ = false

-- a running fetch that passes the test
abbrev pub is_running_for : (Fetch → Bool) → SlotContent → Bool
is_running_for test (Running fetch) = test fetch
is_running_for test _ = false

-- how many permits have a fetch that passes the test
abbrev pub count_for : (Fetch → Bool) → List GrantedPermit → ℕ
count_for test permits = length (filter (λ p. test (fetch_of p)) permits)

-- the table agrees with the lists: each number has its unspent permit in the one list, its running one in the other,
-- or none; as many of each list pass each test as of the slots; and each slot's last grant is of its greatest
-- generation
pub record TellsPermits (t : Table) (unspent running : List GrantedPermit) (greatest : ℕ → ℕ) : Type 0 where
  pub within : IsWithin t
  pub last : (slot : ℕ) → slot < length t.slots → last_in t slot ≡ greatest slot
  pub unspent_under : ListsUnspent t unspent
  pub running_under : ListsRunning t running
  pub unspent_for : (test : Fetch → Bool)
      → count_for test unspent ≡ length (filter (λ slot. is_unspent_for test slot.out) t.slots)
  pub running_for : (test : Fetch → Bool)
      → count_for test running ≡ length (filter (λ slot. is_running_for test slot.out) t.slots)

-- the number has an unspent permit listed
abbrev pub is_listed : List GrantedPermit → ℕ → Bool
is_listed permits number = list_any (is_numbered number) permits

-- the number has a permit for this token and URL listed
abbrev pub is_listed_for : List GrantedPermit → ℕ → List ℕ → List ℕ → Bool
is_listed_for permits number token url =
    list_any (λ p. is_numbered number p && is_fetch_of token url (fetch_of p)) permits

-- how many permits are for pages of this authority
abbrev pub listed_for : List GrantedPermit → List ℕ → ℕ
listed_for permits authority = length (filter (λ p. bytes_eq (authority_of p.url) authority) permits)

-- the slot has a listed permit
abbrev pub holds_slot : List GrantedPermit → ℕ → Bool
holds_slot permits slot = list_any (λ p. slot_of p.number == slot) permits

-- the slot is free by the lists: no permit, and its last generation was not granted
abbrev pub is_free_by : List GrantedPermit → List GrantedPermit → (ℕ → ℕ) → ℕ → Bool
is_free_by unspent running greatest slot =
    not (holds_slot unspent slot || holds_slot running slot) && nat_lt (greatest slot) last_generation

-- the next number by the lists: the lowest free slot's, after its greatest generation
pub record IsNextBy (slots first : ℕ) (unspent running : List GrantedPermit) (greatest : ℕ → ℕ)
    (number : ℕ) : Type 0 where
  pub in_range : slot_of number < slots
  pub free : is_free_by unspent running greatest (slot_of number) ≡ true
  pub lowest : (slot : ℕ) → slot < slot_of number → is_free_by unspent running greatest slot ≡ false
  pub generation : generation_of number ≡ generation_after first (greatest (slot_of number))

-- no slot is free by the lists
abbrev pub NoneFreeBy : ℕ → List GrantedPermit → List GrantedPermit → (ℕ → ℕ) → Type 0
NoneFreeBy slots unspent running greatest = (slot : ℕ) → slot < slots → is_free_by unspent running greatest slot ≡ false

-- the generation that a grant of this number gives a slot
abbrev pub granted_in : ℕ → ℕ → ℕ
granted_in number slot = if slot_of number == slot then generation_of number else 0

-- the permits of other numbers
abbrev pub without : ℕ → List GrantedPermit → List GrantedPermit
without number permits = filter (λ p. not (is_numbered number p)) permits
