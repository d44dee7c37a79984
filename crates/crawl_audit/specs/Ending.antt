-- What ends all that a base left open: permits returned, fetches ended, and turns ended without an answer from the
-- network. RFC 9309, section 2.3.1.4; the contracts of `ending.rt`.
use Rattle.std.specs.Prelude.{◌≡◌, ℕ, ◌+◌, ◌<◌, ◌≤◌, All, Bool, List, [], ◌∷◌, ◌++◌, Result, Ok, Err, Vec, length, map}
use Rattle.std.specs.declared.alloc.Global.{Global}
use Rattle.permit_book.specs.declared.granted_permit.GrantedPermit.{GrantedPermit}
use Rattle.robots_verdict.specs.declared.answer.Closure.TheVariants as closures
use Rattle.robots_verdict.specs.declared.said.Said.TheVariants as says
use Rattle.authority_cache.specs.declared.turn.Turn.{Turn}
use Rattle.authority_cache.specs.Lives.{greatest_life, life_of}
use Rattle.path_normal.specs.declared.schemes.Schemes.{Schemes}
use Rattle.gate_history.specs.declared.entry.Entry.{Entry}
use Rattle.gate_history.specs.declared.entry.Entry.TheVariants.{Arrived, Returned, Finished}
use Rattle.gate_history.specs.Base.{Base}
use Rattle.gate_history.specs.History.{History, ◌▸◌, entry_count, followed_by}
use Rattle.gate_history.specs.Legal.{MayFollow}
use Rattle.gate_core.specs.Limits.{greatest_number, most_entries}
use Rattle.crawl_audit.specs.declared.auditor.Auditor.{Auditor}
use Rattle.crawl_audit.specs.declared.recover_fault.RecoverFault.{RecoverFault}
use Rattle.crawl_audit.specs.declared.recover_fault.RecoverFault.TheVariants.{BadLine, NoEntries, NoRoom, Read, NoMemory}
use Rattle.history_text.specs.declared.version.Version.{Version}
use Rattle.crawl_audit.specs.Audit.{Holds}
use Rattle.crawl_audit.specs.ChainAudit.{IsAmong}
use Rattle.crawl_audit.specs.Chains.{most_lines}
use Rattle.history_text.specs.Spell.{entry_line}
use Rattle.history_text.specs.SpellBase.{lines_text}
use Rattle.crawl_audit.specs.Steps.{Place, among, inside, start}

-- ---- the entries

-- an unused permit is given back
abbrev pub give_back : GrantedPermit → Entry
give_back p = Returned p.number

-- a running fetch ends
abbrev pub finish : GrantedPermit → Entry
finish p = Finished p.number

-- a turn ends at this moment, without an answer from the network
abbrev pub unanswered : ℕ → Turn → Entry
unanswered moment t = Arrived greatest_life moment t.authority t.turn (says.Closed closures.Network)

-- ends all that the base left open, at the greatest moment
abbrev pub ends_of : Base → List Entry
ends_of b = map give_back b.unspent ++ (map finish b.running ++ map (unanswered b.moment) b.in_flight)

-- ---- their places

-- some line was read, and entries may come
abbrev pub HasBegun : Place → Type 0
HasBegun start = ⊥
HasBegun (among version rising h count) = Unit {0}
HasBegun (inside after lines) = ⊥

-- an entry that ends something, possible in each version
abbrev pub IsEnding : Entry → Type 0
IsEnding (Arrived life moment authority turn says) = (life ≡ greatest_life) × (life_of says life ≡ life)
IsEnding (Returned number) = Unit {0}
IsEnding (Finished number) = Unit {0}
IsEnding _ = ⊥

-- each entry is legal after those before it
abbrev pub AllFollow : History → List Entry → Type 0
AllFollow h [] = Unit {0}
AllFollow h (e ∷ later) = MayFollow h e × AllFollow (h ▸ e) later

-- the lines of the entries
abbrev pub lines_of : Version → List Entry → List (List ℕ)
lines_of version entries = map (entry_line version) entries

-- there is room for these lines and entries, of the text and of all texts; they name only the schemes read
pub record HaveRoom (schemes : Schemes) (lines count entries : ℕ) (more : List (List ℕ)) : Type 0 where
  pub lines_fit : lines + length more ≤ most_lines
  pub text_fits : count + length more ≤ most_entries
  pub entries_fit : entries + length more ≤ greatest_number
  pub among : All (IsAmong schemes) more

-- the auditor took the entry's line; or there is no room, or it is not legal; or memory was refused
abbrev pub EndsOne : Schemes → List (List ℕ) → Version → Bool → History → ℕ → Entry → Result (Unit {0}) RecoverFault
    → Auditor → Type 0
EndsOne schemes lines version rising h count e (Ok _) new =
    Holds schemes new (lines ++ entry_line version e ∷ []) (among version rising (h ▸ e) (count + 1))
EndsOne schemes lines version rising h count e (Err (NoRoom number)) new =
    (number ≡ length lines + 1)
    × (MayFollow h e → HaveRoom schemes (length lines) count (entry_count h) (entry_line version e ∷ []) → ⊥)
EndsOne schemes lines version rising h count e (Err NoMemory) new = Unit {0}
EndsOne schemes lines version rising h count e (Err (BadLine _)) new = ⊥
EndsOne schemes lines version rising h count e (Err (NoEntries _)) new = ⊥
EndsOne schemes lines version rising h count e (Err Read) new = ⊥

-- the auditor took the lines of these entries, and this is their text
pub record TakesEnds (schemes : Schemes) (lines : List (List ℕ)) (version : Version) (rising : Bool) (h : History)
    (count : ℕ) (es : List Entry) (text : List ℕ) (new : Auditor) : Type 0 where
  pub holds : Holds schemes new (lines ++ lines_of version es)
      (among version rising (followed_by h es) (count + length es))
  pub text_is : text ≡ lines_text (lines_of version es)

-- one of these lines has this number, and they lack room or are not legal
pub record RefusesEnds (schemes : Schemes) (lines : List (List ℕ)) (version : Version) (h : History) (count : ℕ)
    (es : List Entry) (number : ℕ) : Type 0 where
  pub above : length lines < number
  pub within : number ≤ length lines + length es
  pub lacks : AllFollow h es → HaveRoom schemes (length lines) count (entry_count h) (lines_of version es) → ⊥

-- all were taken, or there is no room, or memory was refused
abbrev pub EndsAll : Schemes → List (List ℕ) → Version → Bool → History → ℕ → List Entry
    → Result (Vec ℕ Global) RecoverFault → Auditor → Type 0
EndsAll schemes lines version rising h count es (Ok text) new =
    TakesEnds schemes lines version rising h count es text.items new
EndsAll schemes lines version rising h count es (Err (NoRoom number)) new =
    RefusesEnds schemes lines version h count es number
EndsAll schemes lines version rising h count es (Err NoMemory) new = Unit {0}
EndsAll schemes lines version rising h count es (Err (BadLine _)) new = ⊥
EndsAll schemes lines version rising h count es (Err (NoEntries _)) new = ⊥
EndsAll schemes lines version rising h count es (Err Read) new = ⊥
