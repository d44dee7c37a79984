-- The base of a first text while it is read: how far, what its reader and the open_state say, and which line may come
-- next. See docs/FORMATS.md.
use Rattle.std.specs.Prelude.{◌≡◌, ℕ, ◌==◌, ◌⊎◌, Bool, true, false, ◌&&◌, nat_le, nat_lt, not, All, List, [], ◌∷◌, ◌++◌, Some, None, OnOk, Result, Ok, Err, codes, is_some, map}
use Rattle.std.specs.declared.alloc.AllocError.{AllocError}
use Rattle.std.specs.Cmp.Lexicographic.{slice_cmp}
use Rattle.std.specs.HashMap.{get}
use Rattle.std.specs.Ordering.{is_lt, nat_cmp}
use Rattle.authority_cache.specs.Lives.{Timed}
use Rattle.authority_cache.specs.Sites.{is_flying, site_of}
use Rattle.gate_history.specs.Base.{Base, empty_base, times_turned}
use Rattle.gate_history.specs.History.{from}
use Rattle.permit_book.specs.Numbers.{generation_of, slot_of}
use Rattle.permit_book.specs.Outstanding.{permit_for}
use Rattle.crawl_audit.specs.declared.first_base.FirstBase.{FirstBase}
use Rattle.crawl_audit.specs.declared.first_base.LastLine.{LastLine}
use Rattle.crawl_audit.specs.declared.first_base.LastLine.TheVariants as lasts
use Rattle.crawl_audit.specs.declared.open_state.OpenState.{OpenState}
use Rattle.crawl_audit.specs.declared.numbers.PermitNumbers.{PermitNumbers}
use Rattle.crawl_audit.specs.declared.numbers.Phase.{Phase}
use Rattle.crawl_audit.specs.declared.numbers.Phase.TheVariants as phases
use Rattle.crawl_audit.specs.declared.unread_line.UnreadLine.{UnreadLine}
use Rattle.crawl_audit.specs.declared.unread_line.UnreadLine.TheVariants.{NotOne, NoMemory}
use Rattle.history_text.specs.Texts.{IsTextBase}
use Rattle.crawl_audit.specs.OpenRows.{OpenRow, Answered, InFlight, Greatest, Unspent, Running, IsOpenRow, MayStand, row_line, rows_of, with_row}
use Rattle.history_text.specs.SpellBase.{base_lines, numbers_line}
use Rattle.crawl_audit.specs.Steps.{Place, Steps, TakesLine, inside}
use Rattle.crawl_audit.specs.Tables.{TellsAll, is_above, lasts_of, phases_of}

-- ---- the order of rows

-- a row by its kind and key
abbrev pub key_of : OpenRow → LastLine
key_of (Answered s) = lasts.Answered s.authority
key_of (InFlight t) = lasts.InFlight t.turn
key_of (Greatest g) = lasts.Greatest g.slot
key_of (Unspent p) = lasts.Unspent p.number
key_of (Running p) = lasts.Running p.number

-- the last line after this one and these rows
abbrev pub last_from : LastLine → List OpenRow → LastLine
last_from last [] = last
last_from last (row ∷ rows) = last_from (key_of row) rows

-- the last line of a base with these rows
abbrev pub last_of : List OpenRow → LastLine
last_of = last_from lasts.Numbers

-- the rank of a line's kind
abbrev pub kind_place : LastLine → ℕ
kind_place lasts.Numbers = 0
kind_place (lasts.Answered _) = 1
kind_place (lasts.InFlight _) = 2
kind_place (lasts.Greatest _) = 3
kind_place (lasts.Unspent _) = 4
kind_place (lasts.Running _) = 5

-- the row sorts after the line: by kind, then by key
abbrev pub is_behind : LastLine → OpenRow → Bool
is_behind (lasts.Answered authority) (Answered s) = is_lt (slice_cmp nat_cmp authority s.authority)
is_behind (lasts.InFlight turn) (InFlight t) = nat_lt turn t.turn
is_behind (lasts.Greatest slot) (Greatest g) = nat_lt slot g.slot
is_behind (lasts.Unspent number) (Unspent p) = nat_lt number p.number
is_behind (lasts.Running number) (Running p) = nat_lt number p.number
is_behind last row = nat_lt (kind_place last) (kind_place (key_of row))

-- ---- what is known of what was read

-- a turn of this number was read
abbrev pub is_used : FirstBase → ℕ → Bool
is_used first turn = is_some (get (λ one other. one == other) first.turns turn)

-- the slot had a grant of this generation or later
abbrev pub is_granted : PermitNumbers → ℕ → Bool
is_granted numbers number = not (is_above (generation_of number) (lasts_of numbers (slot_of number)))

-- the turn was not read yet and could have begun at this moment
abbrev pub may_have_begun : FirstBase → OpenState → ℕ → ℕ → Bool
may_have_begun first open_state turn begun =
    not (is_used first turn) && (nat_le turn open_state.begins && nat_le begun open_state.clock)

-- the row is consistent with what was read, in any order
abbrev pub fits : FirstBase → OpenState → OpenRow → Bool
fits first open_state (Answered s) = may_have_begun first open_state s.turn s.begun
fits first open_state (InFlight t) =
    not (is_flying (site_of open_state.cache t.authority)) && may_have_begun first open_state t.turn t.begun
fits first open_state (Greatest g) = true
fits first open_state (Unspent p) = is_granted open_state.numbers p.number
fits first open_state (Running p) =
    is_granted open_state.numbers p.number && not (is_some (phases_of open_state.numbers p.number))

-- the reader and the open_state agree with the base
pub record SaysBase (first : FirstBase) (open_state : OpenState) (b : Base) : Type 0 where
  pub is_base : IsTextBase b
  pub rows : All IsOpenRow (rows_of b)
  pub tells : TellsAll open_state (from b)
  pub rising : open_state.numbers.rising ≡ true
  pub last_is : first.last ≡ Some (last_of (rows_of b))
  pub turns_are : (turn : ℕ) → is_used first turn ≡ nat_lt 0 (times_turned b.standing b.in_flight turn)

-- a row with an answer
abbrev pub answered_row : List ℕ → ℕ → ℕ → Timed → OpenRow
answered_row authority turn begun answer =
    Answered (record { authority = authority; turn = turn; begun = begun; life = answer.life; says = answer.says })

abbrev pub turn_row : List ℕ → ℕ → ℕ → OpenRow
turn_row authority turn begun = InFlight (record { authority = authority; turn = turn; begun = begun })

-- a row with a permit in this phase
abbrev pub permit_row : ℕ → Phase → OpenRow
permit_row number (phases.Unspent fetch) = Unspent (permit_for number fetch)
permit_row number (phases.Running fetch) = Running (permit_for number fetch)

-- a possible next row was loaded: they agree with the base that has it
abbrev pub Loads : Base → OpenRow → Result (Unit {0}) AllocError → FirstBase → OpenState → Type 0
Loads b row result first open_state =
    IsOpenRow row → MayStand b row → OnOk result (SaysBase first open_state (with_row b row))

-- only the first line was read
pub record ReadsHead (first : FirstBase) (open_state : OpenState) (lines : List (List ℕ)) : Type 0 where
  pub lines_are : lines ≡ codes "V 3" ∷ []
  pub tells : TellsAll open_state (from empty_base)
  pub none : first.last ≡ None
  pub unused : (turn : ℕ) → is_used first turn ≡ false

-- the numbers and these rows of a base were read
pub record ReadsRows (first : FirstBase) (open_state : OpenState) (lines : List (List ℕ)) : Type 0 where
  pub base : Base
  pub says : SaysBase first open_state base
  pub lines_are : lines ≡ codes "V 3" ∷ numbers_line base ∷ map row_line (rows_of base)

-- these lines of a base were read
abbrev pub Reads : FirstBase → OpenState → List (List ℕ) → Type 0
Reads first open_state lines = ReadsHead first open_state lines ⊎ ReadsRows first open_state lines

-- the lines are a whole base, which the open_state continues
pub record HasRead (lines : List (List ℕ)) (open_state : OpenState) : Type 0 where
  pub base : Base
  pub is_base : IsTextBase base
  pub lines_are : base_lines base ≡ lines
  pub tells : TellsAll open_state (from base)
  pub rising : open_state.numbers.rising ≡ true

-- the line is the base's next or last one, or neither, or memory was refused
abbrev pub TakesBaseLine : List (List ℕ) → List ℕ → Result Bool UnreadLine → FirstBase → OpenState → Type 0
TakesBaseLine lines line (Ok false) first open_state =
    Reads first open_state (lines ++ line ∷ []) × TakesLine None lines line (inside None (lines ++ line ∷ []))
TakesBaseLine lines line (Ok true) first open_state = HasRead (lines ++ line ∷ []) open_state
TakesBaseLine lines line (Err NotOne) first open_state = (next : Place) → Steps (inside None lines) line next → ⊥
TakesBaseLine lines line (Err NoMemory) first open_state = Unit {0}
