-- Reading texts line by line: the reader's place, and where each line of a valid text leads. By the laws, the lines
-- read in this way are those with which a valid text may begin.
use Rattle.std.specs.Prelude.{◌≡◌, ℕ, ◌+◌, ◌<◌, ◌⊎◌, Bool, true, false, List, [], ◌∷◌, ◌++◌, Option, Some, None, codes}
use Rattle.gate_history.specs.declared.entry.Entry.{Entry}
use Rattle.gate_history.specs.Base.{Base, empty_base}
use Rattle.gate_history.specs.History.{History, ◌▸◌, entry_count, from}
use Rattle.gate_history.specs.Seal.{SaysAs}
use Rattle.gate_core.specs.Limits.{greatest_number, most_entries}
use Rattle.history_text.specs.declared.version.Version.{Version}
use Rattle.history_text.specs.declared.version.Version.TheVariants.{One, Two}
use Rattle.history_text.specs.Texts.{IsTextBase}
use Rattle.history_text.specs.Entries.{IsEntry}
use Rattle.history_text.specs.Spell.{entry_line}
use Rattle.history_text.specs.SpellBase.{base_lines}
use Rattle.crawl_audit.specs.Tables.{MayCome}

-- the reader's place: before the first line; behind `count` entries after a history, where grants must rise or need
-- not; or behind these lines of a first text's or a continuing text's base
pub data Place : Type 0 where
  start : Place
  among : Version → Bool → History → ℕ → Place
  inside : Option History → List (List ℕ) → Place

-- a base that may come there
abbrev pub IsBaseFor : Option History → Base → Type 0
IsBaseFor None b = IsTextBase b
IsBaseFor (Some h) b = IsTextBase b × SaysAs (from b) h

-- the line is that of an entry that may come next
pub record TakesEntry (version : Version) (rising : Bool) (h : History) (count : ℕ) (line : List ℕ)
    (next : Place) : Type 0 where
  pub entry : Entry
  pub spelled : IsEntry version entry
  pub may : MayCome rising h entry
  pub room : count < most_entries
  pub counted : entry_count h < greatest_number
  pub line_is : line ≡ entry_line version entry
  pub next_is : next ≡ among version rising (h ▸ entry) (count + 1)

-- the line is one of a base, with more to come
pub record TakesLine (after : Option History) (lines : List (List ℕ)) (line : List ℕ) (next : Place) : Type 0 where
  pub base : Base
  pub is_base : IsBaseFor after base
  pub following : List ℕ
  pub later : List (List ℕ)
  pub lines_are : base_lines base ≡ (lines ++ line ∷ []) ++ following ∷ later
  pub next_is : next ≡ inside after (lines ++ line ∷ [])

-- the line is the last of a base
pub record EndsBase (after : Option History) (lines : List (List ℕ)) (line : List ℕ) (next : Place) : Type 0 where
  pub base : Base
  pub is_base : IsBaseFor after base
  pub lines_are : base_lines base ≡ lines ++ line ∷ []
  pub next_is : next ≡ among Two true (from base) 0

-- the line is this head, and leads to that place
pub record IsHead (head line : List ℕ) (there next : Place) : Type 0 where
  pub line_is : line ≡ head
  pub next_is : next ≡ there

-- where a line leads
abbrev pub Steps : Place → List ℕ → Place → Type 0
Steps start line next =
    IsHead (codes "V 2") line (among Two false (from empty_base) 0) next
    ⊎ (IsHead (codes "V 3") line (inside None (codes "V 3" ∷ [])) next
    ⊎ TakesEntry One false (from empty_base) 0 line next)
Steps (among version rising h count) line next =
    IsHead (codes "V 3") line (inside (Some h) (codes "V 3" ∷ [])) next ⊎ TakesEntry version rising h count line next
Steps (inside after lines) line next = TakesLine after lines line next ⊎ EndsBase after lines line next

-- where lines lead, one after the other
abbrev pub Runs : Place → List (List ℕ) → Place → Type 0
Runs place [] next = next ≡ place
Runs place (line ∷ lines) next = (between : Place) × (Steps place line between × Runs between lines next)

-- a text may end there, that is, not within a base
abbrev pub MayEnd : Place → Type 0
MayEnd start = Unit {0}
MayEnd (among version rising h count) = Unit {0}
MayEnd (inside after lines) = ⊥
