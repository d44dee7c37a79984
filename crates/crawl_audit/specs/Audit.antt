-- What an audit says of texts: they are a chain, or a line continues none; and the auditor's state behind the lines
-- read. docs/FORMATS.md has the causes; `gate_history` defines legality.
use Rattle.std.specs.Prelude.{◌≡◌, ℕ, ◌+◌, ◌<◌, ◌≤◌, ◌==◌, All, Bool, true, false, List, [], ◌∷◌, ◌++◌, Option, Some, None, Result, Ok, Err, codes, filter, if◌then◌else◌, length}
use Rattle.std.specs.List.{list_any}
use Rattle.std.specs.Io.KnownBytes.{Consumes, IsAtEnd}
use Rattle.counted_io.specs.Device.{one_more}
use Rattle.path_normal.specs.declared.schemes.Schemes.{Schemes}
use Rattle.gate_history.specs.Base.{empty_base}
use Rattle.gate_history.specs.History.{History, from}
use Rattle.gate_history.specs.Legal.{IsLegal}
use Rattle.history_text.specs.declared.version.Version.{Version}
use Rattle.history_text.specs.declared.version.Version.TheVariants.{One, Two}
use Rattle.crawl_audit.specs.declared.fault.AuditFault.{AuditFault}
use Rattle.crawl_audit.specs.declared.fault.AuditFault.TheVariants.{BadLine, Read, NoMemory}
use Rattle.crawl_audit.specs.declared.auditor.Auditor.{Auditor}
use Rattle.crawl_audit.specs.declared.auditor.AuditState.TheVariants as stages
use Rattle.crawl_audit.specs.declared.first_base.FirstBase.{FirstBase}
use Rattle.crawl_audit.specs.declared.next_base.NextBase.{NextBase}
use Rattle.crawl_audit.specs.declared.unread_line.UnreadLine.{UnreadLine}
use Rattle.crawl_audit.specs.declared.unread_line.UnreadLine.TheVariants as unread
use Rattle.crawl_audit.specs.ChainAudit.{IsAmong, IsChainBadAt}
use Rattle.crawl_audit.specs.Chains.{most_lines}
use Rattle.crawl_audit.specs.FirstBase.{Reads}
use Rattle.crawl_audit.specs.NextBase.{Expects}
use Rattle.history_text.specs.SpellBase.{lines_text}
use Rattle.crawl_audit.specs.Steps.{among, inside, MayEnd, Place, Runs, start, Steps, TakesEntry}
use Rattle.crawl_audit.specs.Tables.{TellsAll}

-- the meaning of a fault of a text
abbrev pub IsFault : Schemes → List ℕ → AuditFault → Type 0
IsFault schemes text (BadLine line) = IsChainBadAt schemes text line
IsFault schemes text Read = Unit {0}
IsFault schemes text NoMemory = Unit {0}

-- ---- the lines that are counted

-- the first letter is an entry's
abbrev pub is_entry_line : List ℕ → Bool
is_entry_line [] = false
is_entry_line (letter ∷ rest) = list_any (λ kind. kind == letter) (codes "BAGNSDKFW")

-- the first letter is a started fetch's
abbrev pub is_start_line : List ℕ → Bool
is_start_line [] = false
is_start_line (letter ∷ rest) = letter == 83

-- the counts of entries and starts include the line, unless they are too great
pub record CountsLine (old : Auditor) (line : List ℕ) (new : Auditor) : Type 0 where
  pub events : old.events < most_lines → new.events ≡ (if is_entry_line line then old.events + 1 else old.events)
  pub starts : old.starts < most_lines → new.starts ≡ (if is_start_line line then old.starts + 1 else old.starts)

-- ---- the auditor's place

-- `count` entries of a text were read, and the open_state agrees with the history
pub record AreEntries (a : Auditor) (version : Version) (rising : Bool) (h : History) (count : ℕ) : Type 0 where
  pub version_is : a.version ≡ version
  pub rising_is : a.open_state.numbers.rising ≡ rising
  pub count_is : a.count ≡ count
  pub tells : TellsAll a.open_state h
  pub legal : IsLegal h

-- these lines of a first text's base were read
pub record IsInFirst (a : Auditor) (lines : List (List ℕ)) : Type 0 where
  pub first : FirstBase
  pub stage : a.stage ≡ stages.First first
  pub reads : Reads first a.open_state lines

-- these lines of the base that continues the history were read
pub record IsInFurther (a : Auditor) (h : History) (lines : List (List ℕ)) : Type 0 where
  pub next : NextBase
  pub stage : a.stage ≡ stages.Further next
  pub expects : Expects next h lines
  pub tells : TellsAll a.open_state h
  pub legal : IsLegal h

-- the auditor is at this place
abbrev pub StandsAt : Auditor → Place → Type 0
StandsAt a start = (a.stage ≡ stages.Start) × AreEntries a One false (from empty_base) 0
StandsAt a (among version rising h count) = (a.stage ≡ stages.Entries) × AreEntries a version rising h count
StandsAt a (inside None lines) = IsInFirst a lines
StandsAt a (inside (Some h) lines) = IsInFurther a h lines

-- ---- what a line does

-- a base was read: entries may come
pub record BeginsEntries (old new : Auditor) : Type 0 where
  pub version : new.version ≡ Two
  pub stage : new.stage ≡ stages.Entries
  pub count : new.count ≡ 0
  pub open_state : new.open_state ≡ old.open_state
  pub reader : new.reader ≡ old.reader
  pub schemes : new.schemes ≡ old.schemes
  pub lines : new.lines ≡ old.lines
  pub events : new.events ≡ old.events
  pub starts : new.starts ≡ old.starts

-- the line led to a place, where the auditor is now
pub record GoesTo (place : Place) (line : List ℕ) (old new : Auditor) : Type 0 where
  pub next : Place
  pub steps : Steps place line next
  pub stands : StandsAt new next
  pub counts : CountsLine old line new

-- the line led somewhere, or nowhere, or memory was refused
abbrev pub Moves : Place → List ℕ → Auditor → Result (Unit {0}) UnreadLine → Auditor → Type 0
Moves place line old (Ok _) new = GoesTo place line old new
Moves place line old (Err unread.NotOne) new = (next : Place) → Steps place line next → ⊥
Moves place line old (Err unread.NoMemory) new = Unit {0}

-- the line was an entry's
pub record EntersOne (version : Version) (rising : Bool) (h : History) (count : ℕ) (line : List ℕ)
    (old new : Auditor) : Type 0 where
  pub next : Place
  pub takes : TakesEntry version rising h count line next
  pub stands : StandsAt new next
  pub counts : CountsLine old line new

-- a legal entry's line, or another, or memory was refused
abbrev pub EntersLine : Version → Bool → History → ℕ → List ℕ → Auditor → Result (Unit {0}) UnreadLine → Auditor
    → Type 0
EntersLine version rising h count line old (Ok _) new = EntersOne version rising h count line old new
EntersLine version rising h count line old (Err unread.NotOne) new =
    (next : Place) → TakesEntry version rising h count line next → ⊥
EntersLine version rising h count line old (Err unread.NoMemory) new = Unit {0}

-- these lines, of the schemes read, led to the place
pub record Holds (schemes : Schemes) (a : Auditor) (lines : List (List ℕ)) (place : Place) : Type 0 where
  pub schemes_are : a.schemes ≡ schemes
  pub runs : Runs start lines place
  pub stands : StandsAt a place
  pub lines_are : a.lines ≡ length lines
  pub few : length lines ≤ most_lines
  pub among : All (IsAmong schemes) lines
  pub events_are : a.events ≡ length (filter is_entry_line lines)
  pub starts_are : a.starts ≡ length (filter is_start_line lines)

-- in no valid text of these schemes does this line follow these
abbrev pub LeadsNowhere : Schemes → List (List ℕ) → Place → List ℕ → Type 0
LeadsNowhere schemes lines place line =
    length lines < most_lines → IsAmong schemes line → (next : Place) → Steps place line next → ⊥

-- one more line was read, or it does not continue the others
abbrev pub AddsLine : Schemes → List (List ℕ) → Place → List ℕ → Result (Unit {0}) AuditFault → Auditor → Type 0
AddsLine schemes lines place line (Ok _) new = (next : Place) × Holds schemes new (lines ++ line ∷ []) next
AddsLine schemes lines place line (Err (BadLine number)) new =
    (number ≡ length lines + 1) × LeadsNowhere schemes lines place line
AddsLine schemes lines place line (Err _) new = Unit {0}

-- the lines so far were a prefix of the input
pub record Heard (schemes : Schemes) (a : Auditor) (input behind : Option (List ℕ)) : Type 0 where
  pub lines : List (List ℕ)
  pub place : Place
  pub holds : Holds schemes a lines place
  pub taken : Consumes input behind (lines_text lines)

-- they were all of it, and a text may end there
pub record HeardAll (schemes : Schemes) (a : Auditor) (input behind : Option (List ℕ)) : Type 0 where
  pub heard : Heard schemes a input behind
  pub ends : MayEnd heard.place
  pub at_end : IsAtEnd behind

-- a step took a line, or found the end, or a fault
abbrev pub TakesStep : Schemes → Option (List ℕ) → Auditor → Result Bool AuditFault → Auditor → Option (List ℕ) → Type 0
TakesStep schemes input old (Ok true) new behind = Heard schemes new input behind × (new.lines ≡ old.lines + 1)
TakesStep schemes input old (Ok false) new behind = HeardAll schemes new input behind
TakesStep schemes input old (Err fault) new behind = (text : List ℕ) → input ≡ Some text → IsFault schemes text fault

-- the source's failures after an audit: one more exactly if a read failed
abbrev pub failures_after_audit : {T : Type 0} → ℕ → Result T AuditFault → ℕ
failures_after_audit failures (Ok _) = failures
failures_after_audit failures (Err Read) = one_more failures
failures_after_audit failures (Err (BadLine _)) = failures
failures_after_audit failures (Err NoMemory) = failures
