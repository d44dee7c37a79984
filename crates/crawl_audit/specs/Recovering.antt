-- Where a gate continues after a crash: a text's whole lines, the lines that end what was outstanding, and the
-- result.
-- See docs/FORMATS.md; RFC 9309, sections 2.3.1 and 2.4.
use Rattle.std.specs.Prelude.{◌≡◌, ℕ, ◌+◌, ◌*◌, ◌<◌, ◌≤◌, ◌⊎◌, All, Bool, true, false, Contains, List, [], ◌++◌, Option, Some, Result, Ok, Err, Vec, length, map}
use Rattle.std.specs.declared.alloc.Global.{Global}
use Rattle.counted_io.specs.Device.{one_more}
use Rattle.counted_io.specs.Lines.{HasNoLineFeed, line_feed}
use Rattle.path_normal.specs.declared.schemes.Schemes.{Schemes}
use Rattle.authority_cache.specs.Lists.{TellsCache}
use Rattle.authority_cache.specs.Sites.{Known}
use Rattle.gate_history.specs.declared.entry.Entry.{Entry}
use Rattle.gate_history.specs.Base.{Base, IsBase}
use Rattle.gate_history.specs.History.{History, entry_count, followed_by, from}
use Rattle.gate_history.specs.Legal.{IsLegal}
use Rattle.gate_history.specs.Order.{IsInOrder}
use Rattle.gate_history.specs.Seal.{SaysAs}
use Rattle.crawl_audit.specs.declared.auditor.Auditor.{Auditor}
use Rattle.crawl_audit.specs.declared.fault.AuditFault.{AuditFault}
use Rattle.crawl_audit.specs.declared.fault.AuditFault.TheVariants as faults
use Rattle.crawl_audit.specs.declared.recover_fault.RecoverFault.{RecoverFault}
use Rattle.crawl_audit.specs.declared.recover_fault.RecoverFault.TheVariants.{BadLine, NoEntries, NoRoom, Read, NoMemory}
use Rattle.crawl_audit.specs.declared.recovering.Recovered.{Recovered}
use Rattle.history_text.specs.declared.version.Version.{Version}
use Rattle.crawl_audit.specs.declared.whole_lines.WholeLines.{WholeLines}
use Rattle.crawl_audit.specs.Audit.{Heard, Holds}
use Rattle.crawl_audit.specs.ChainAudit.{IsAmong, IsChainBadAt}
use Rattle.crawl_audit.specs.Chains.{line_limit, most_lines}
use Rattle.crawl_audit.specs.Ending.{EndsAll, HasBegun, HaveRoom, IsEnding, ends_of, lines_of}
use Rattle.history_text.specs.SpellBase.{lines_text}
use Rattle.crawl_audit.specs.Steps.{Place, Runs, among, start}
use Rattle.crawl_audit.specs.Tables.{TellsAll}

-- ---- a text whose last line may be torn

-- the text is these whole lines, and a rest without line feed
pub record IsCut (text : List ℕ) (lines : List (List ℕ)) : Type 0 where
  pub are_lines : All HasNoLineFeed lines
  pub torn : List ℕ
  pub no_line_feed : HasNoLineFeed torn
  pub text_is : text ≡ lines_text lines ++ torn

-- no valid text has this line, which is whole or too long
pub record IsBadWhole (schemes : Schemes) (text : List ℕ) (line : ℕ) : Type 0 where
  pub bad : IsChainBadAt schemes text line
  pub whole : Contains bad.behind line_feed ⊎ (line_limit < length bad.behind)

-- whole lines of the input were read, of so many octets
pub record HeardWhole (schemes : Schemes) (w : WholeLines) (input behind : Option (List ℕ)) : Type 0 where
  pub heard : Heard schemes w.auditor input behind
  pub octets_are : w.octets ≡ length (lines_text heard.lines)
  pub bound : length (lines_text heard.lines) ≤ length heard.lines * (line_limit + 1)

-- all whole lines of the input were read
pub record HeardCut (schemes : Schemes) (w : WholeLines) (input : Option (List ℕ)) : Type 0 where
  pub lines : List (List ℕ)
  pub place : Place
  pub holds : Holds schemes w.auditor lines place
  pub cut : (text : List ℕ) → input ≡ Some text → IsCut text lines
  pub octets_are : w.octets ≡ length (lines_text lines)

-- the meaning of a fault of a possibly torn text
abbrev pub IsWholeFault : Schemes → List ℕ → AuditFault → Type 0
IsWholeFault schemes text (faults.BadLine line) = IsBadWhole schemes text line
IsWholeFault schemes text faults.Read = Unit {0}
IsWholeFault schemes text faults.NoMemory = Unit {0}

-- a whole line was taken, or none left, or there was a fault
abbrev pub TakesWhole : Schemes → Option (List ℕ) → WholeLines → Result Bool AuditFault → WholeLines → Option (List ℕ)
    → Type 0
TakesWhole schemes input old (Ok true) new behind =
    HeardWhole schemes new input behind × (new.auditor.lines ≡ old.auditor.lines + 1)
TakesWhole schemes input old (Ok false) new behind = HeardCut schemes new input
TakesWhole schemes input old (Err fault) new behind =
    (text : List ℕ) → input ≡ Some text → IsWholeFault schemes text fault

-- the fault of recovery for a fault of the auditor
abbrev pub fault_read : AuditFault → RecoverFault
fault_read (faults.BadLine line) = BadLine line
fault_read faults.Read = Read
fault_read faults.NoMemory = NoMemory

-- ---- what the lines lead to

-- entries may follow these lines, and the base in order says what their history left open
pub record LeaveOpen (lines : List (List ℕ)) : Type 0 where
  pub version : Version
  pub rising : Bool
  pub history : History
  pub count : ℕ
  pub runs : Runs start lines (among version rising history count)
  pub left : Base
  pub is_base : IsBase left
  pub order : IsInOrder left
  pub says : SaysAs (from left) history

-- the base describes the history, and the cache has its valid answers and turns in flight
pub record LeadsTo (h : History) (base : Base) (cache : Known) : Type 0 where
  pub is_base : IsBase base
  pub order : IsInOrder base
  pub says : SaysAs (from base) h
  pub answers : TellsCache cache base.standing base.in_flight

-- entries may come after the text's whole lines and those that end what was left open: an audit of these schemes
-- takes all of them, and they lead to what was found
pub record IsRecovered (schemes : Schemes) (text : List ℕ) (found : Recovered) : Type 0 where
  pub lines : List (List ℕ)
  pub cut : IsCut text lines
  pub whole_is : found.whole ≡ length (lines_text lines)
  pub behind : LeaveOpen lines
  pub begun_are : found.begun.items ≡ map (λ t. t.authority) behind.left.in_flight
  pub ends : List (List ℕ)
  pub ends_are : ends ≡ lines_of behind.version (ends_of behind.left)
  pub ending_is : found.ending.items ≡ lines_text ends
  pub runs : Runs start (lines ++ ends)
      (among behind.version behind.rising (followed_by behind.history (ends_of behind.left))
      (behind.count + length (ends_of behind.left)))
  pub few : length (lines ++ ends) ≤ most_lines
  pub among : All (IsAmong schemes) (lines ++ ends)
  pub leads : LeadsTo (followed_by behind.history (ends_of behind.left)) found.base found.cache

-- ---- what is refused

-- the text has the whole lines before this one, and no entry may follow
pub record EndsEarly (text : List ℕ) (line : ℕ) : Type 0 where
  pub lines : List (List ℕ)
  pub cut : IsCut text lines
  pub place : Place
  pub runs : Runs start lines place
  pub not_begun : HasBegun place → ⊥
  pub line_is : line ≡ length lines + 1

-- what the whole lines left open can't be ended: this line would be one of those that end it
pub record LacksRoom (schemes : Schemes) (text : List ℕ) (line : ℕ) : Type 0 where
  pub lines : List (List ℕ)
  pub cut : IsCut text lines
  pub behind : LeaveOpen lines
  pub lacks : HaveRoom schemes (length lines) behind.count (entry_count behind.history)
      (lines_of behind.version (ends_of behind.left)) → ⊥
  pub above : length lines < line
  pub within : line ≤ length lines + length (ends_of behind.left)

-- the meaning of a fault of a text
abbrev pub IsRecoverFault : Schemes → List ℕ → RecoverFault → Type 0
IsRecoverFault schemes text (BadLine line) = IsBadWhole schemes text line
IsRecoverFault schemes text (NoEntries line) = EndsEarly text line
IsRecoverFault schemes text (NoRoom line) = LacksRoom schemes text line
IsRecoverFault schemes text Read = Unit {0}
IsRecoverFault schemes text NoMemory = Unit {0}

-- the base describes, in order, each history that the tables do
pub record IsLeft (a : Auditor) (left : Base) : Type 0 where
  pub says : (h : History) → IsLegal h → TellsAll a.open_state h → SaysAs (from left) h
  pub is_base : IsBase left
  pub order : IsInOrder left

-- the result of the lines of these entries
abbrev pub EndsFor : Auditor → List Entry → Result (Vec ℕ Global) RecoverFault → Auditor → Type 0
EndsFor old es result new =
    (schemes : Schemes) (lines : List (List ℕ)) (version : Version) (rising : Bool) (h : History) (count : ℕ)
    → Holds schemes old lines (among version rising h count)
    → All IsEnding es → EndsAll schemes lines version rising h count es result new

-- the result of the lines that end the base
abbrev pub EndsLeft : Auditor → Base → Result (Vec ℕ Global) RecoverFault → Auditor → Type 0
EndsLeft old left = EndsFor old (ends_of left)

-- a sorted base agrees with the tables, and the auditor took the lines that end what it left open, with their text
-- and sites; or it can't; or memory was refused
abbrev pub EndsOpen : Auditor → Result (Vec ℕ Global × Vec (List ℕ) Global) RecoverFault → Auditor → Type 0
EndsOpen old (Ok found) new =
    (left : Base) × (IsLeft old left
    × (EndsLeft old left (Ok found.0) new × (found.1.items ≡ map (λ t. t.authority) left.in_flight)))
EndsOpen old (Err fault) new =
    ((left : Base) × (IsLeft old left × EndsLeft old left (Err fault) new)) ⊎ (fault ≡ NoMemory)

-- the result for an input's whole lines: the state they lead to, or a refusal
abbrev pub Recovers : Schemes → Option (List ℕ) → Result Recovered RecoverFault → Type 0
Recovers schemes input (Ok found) = (text : List ℕ) → input ≡ Some text → IsRecovered schemes text found
Recovers schemes input (Err Read) = ⊥
Recovers schemes input (Err fault) = (text : List ℕ) → input ≡ Some text → IsRecoverFault schemes text fault

-- the source's failures after a recovery: one more exactly if a read failed
abbrev pub failures_after_recovery : {T : Type 0} → ℕ → Result T RecoverFault → ℕ
failures_after_recovery failures (Ok _) = failures
failures_after_recovery failures (Err Read) = one_more failures
failures_after_recovery failures (Err (BadLine _)) = failures
failures_after_recovery failures (Err (NoEntries _)) = failures
failures_after_recovery failures (Err (NoRoom _)) = failures
failures_after_recovery failures (Err NoMemory) = failures
