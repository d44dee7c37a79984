-- How each change of a table changes a history's lists, and reading both alike.
-- The contracts of `laws.rt`.
use Rattle.std.specs.Prelude.{◌≡◌, ◌↔◌, ℕ, ◌+◌, ◌<◌, ◌==◌, true, false, if◌then◌else◌, max, List, [], ◌∷◌, ◌++◌, length, filter, replicate}
use Rattle.permit_book.specs.declared.out.Fetch.{Fetch}
use Rattle.permit_book.specs.declared.out.SlotContent.TheVariants.{Nothing, Unspent}
use Rattle.permit_book.specs.declared.granted_permit.GrantedPermit.{GrantedPermit}
use Rattle.permit_book.specs.Table.{Table, decided, held_count, is_nothing, is_running, is_unspent, noted, one_for, out_under, running_count, slot_at, stands, unspent_count, unused, with_out}
use Rattle.permit_book.specs.Next.{IsNext, NoneFree}
use Rattle.permit_book.specs.Kept.{IsWithin}
use Rattle.permit_book.specs.Outstanding.{IsNextBy, NoneFreeBy, TellsPermits, granted_in, is_listed, is_listed_for, is_numbered, listed_for, permit_for, without}

-- a new table agrees with a history without grants
abbrev pub NewTells : Type 0
NewTells = (first slots : ℕ) → IsWithin (record { first_generation = first; slots = replicate slots unused })
    → TellsPermits (record { first_generation = first; slots = replicate slots unused }) [] [] (λ _. 0)

-- a grant adds its permit to the unspent ones
abbrev pub GrantTells : Type 0
GrantTells = (t : Table) (unspent running : List GrantedPermit) (greatest : ℕ → ℕ) (number : ℕ) (fetch : Fetch)
    → TellsPermits t unspent running greatest → IsNext t number
    → TellsPermits (with_out t number (Unspent fetch)) (unspent ++ permit_for number fetch ∷ []) running
    (λ slot. max (granted_in number slot) (greatest slot))

-- an allowed start moves its permit from the unspent to the running ones
abbrev pub StartTells : Type 0
StartTells = (t : Table) (unspent running : List GrantedPermit) (greatest : ℕ → ℕ) (number : ℕ)
    → TellsPermits t unspent running greatest → is_unspent t number ≡ true
    → TellsPermits (with_out t number (decided true (out_under t number))) (without number unspent)
    (running ++ filter (is_numbered number) unspent) greatest

-- a denied start and a return remove the unspent permit
abbrev pub ReturnTells : Type 0
ReturnTells = (t : Table) (unspent running : List GrantedPermit) (greatest : ℕ → ℕ) (number : ℕ)
    → TellsPermits t unspent running greatest → is_unspent t number ≡ true
    → TellsPermits (with_out t number Nothing) (without number unspent) running greatest

-- a finish removes its permit from the running ones
abbrev pub FinishTells : Type 0
FinishTells = (t : Table) (unspent running : List GrantedPermit) (greatest : ℕ → ℕ) (number : ℕ)
    → TellsPermits t unspent running greatest → is_running t number ≡ true
    → TellsPermits (with_out t number Nothing) unspent (without number running) greatest

-- the next number of the table is that of the lists
abbrev pub NextAlike : Type 0
NextAlike = (t : Table) (unspent running : List GrantedPermit) (greatest : ℕ → ℕ) (number : ℕ)
    → TellsPermits t unspent running greatest
    → IsNext t number ↔ IsNextBy (length t.slots) t.first_generation unspent running greatest number

-- the table has no free slot if the lists have none
abbrev pub NoneFreeAlike : Type 0
NoneFreeAlike = (t : Table) (unspent running : List GrantedPermit) (greatest : ℕ → ℕ)
    → TellsPermits t unspent running greatest
    → NoneFree t ↔ NoneFreeBy (length t.slots) unspent running greatest

-- table and lists are read alike
pub record ReadsAlike (t : Table) (unspent running : List GrantedPermit) : Type 0 where
  pub unspent_numbers : (number : ℕ) → is_unspent t number ≡ is_listed unspent number
  pub running_numbers : (number : ℕ) → is_running t number ≡ is_listed running number
  pub permits : (number : ℕ) (token url : List ℕ) → stands t number token url ≡ is_listed_for unspent number token url
  pub held : (authority : List ℕ) → held_count t authority ≡ listed_for unspent authority + listed_for running authority
  pub unspent_many : unspent_count t ≡ length unspent
  pub running_many : running_count t ≡ length running

-- a table that agrees with lists is read like them
abbrev pub TellingReadsAlike : Type 0
TellingReadsAlike = (t : Table) (unspent running : List GrantedPermit) (greatest : ℕ → ℕ)
    → TellsPermits t unspent running greatest → ReadsAlike t unspent running

-- other lists may give the same greatest generations
abbrev pub GreatestAlike : Type 0
GreatestAlike = (t : Table) (unspent running : List GrantedPermit) (greatest others : ℕ → ℕ)
    → TellsPermits t unspent running greatest → ((slot : ℕ) → others slot ≡ greatest slot)
    → TellsPermits t unspent running others

-- a table whose lists have no permit has nothing outstanding
abbrev pub IdleIsEmpty : Type 0
IdleIsEmpty =
    (t : Table) (greatest : ℕ → ℕ) (slot : ℕ) → TellsPermits t [] [] greatest → is_nothing (slot_at t slot).out ≡ true

-- a noted earlier grant is one more of its slot
abbrev pub NoteTells : Type 0
NoteTells = (t : Table) (unspent running : List GrantedPermit) (greatest : ℕ → ℕ) (slot generation : ℕ)
    → TellsPermits t unspent running greatest → slot < length t.slots → is_nothing (slot_at t slot).out ≡ true
    → TellsPermits (noted t slot generation) unspent running
    (λ other. max (if slot == other then generation else 0) (greatest other))

-- a grant adds one permit to its URL's authority
abbrev pub GrantHolds : Type 0
GrantHolds = (t : Table) (number : ℕ) (fetch : Fetch) (authority : List ℕ) → IsNext t number
    → held_count (with_out t number (Unspent fetch)) authority
    ≡ held_count t authority + one_for authority (Unspent fetch)

-- an allowed start changes no authority's count
abbrev pub StartHolds : Type 0
StartHolds = (t : Table) (number : ℕ) (authority : List ℕ) → is_unspent t number ≡ true
    → held_count (with_out t number (decided true (out_under t number))) authority ≡ held_count t authority

-- a permit's end removes one from its URL's authority
abbrev pub EndHolds : Type 0
EndHolds = (t : Table) (number : ℕ) (authority : List ℕ) → is_nothing (out_under t number) ≡ false
    → held_count (with_out t number Nothing) authority + one_for authority (out_under t number) ≡ held_count t authority

-- no permit of a new table is outstanding
abbrev pub NewHolds : Type 0
NewHolds = (first slots : ℕ) (authority : List ℕ)
    → held_count (record { first_generation = first; slots = replicate slots unused }) authority ≡ 0
