-- The laws of the text format.
-- The contracts of `laws.rt`.
use Rattle.std.specs.Prelude.{◌≡◌, ℕ, ◌<◌, ◌≤◌, ◌↔◌, [], ◌++◌, All, List, length}
use Rattle.path_normal.specs.declared.schemes.Schemes.{Schemes}
use Rattle.path_normal.specs.declared.schemes.Schemes.TheVariants.{Http}
use Rattle.gate_history.specs.declared.entry.Entry.{Entry}
use Rattle.gate_history.specs.Base.{Base, IsBase}
use Rattle.gate_history.specs.History.{History, from}
use Rattle.gate_history.specs.Order.{IsInOrder}
use Rattle.gate_history.specs.Seal.{SaysAs}
use Rattle.gate_history.specs.Segment.{Sealed}
use Rattle.history_text.specs.declared.version.Version.{Version}
use Rattle.crawl_audit.specs.ChainAudit.{IsAmong, IsChainBadAt}
use Rattle.history_text.specs.Entries.{IsEntry}
use Rattle.history_text.specs.Exports.{IsExport, plain_text, text_of}
use Rattle.crawl_audit.specs.HttpChains.{IsHttpChain}
use Rattle.history_text.specs.Texts.{IsText, IsTextBase, Text}
use Rattle.crawl_audit.specs.Chains.{chain_lines, chain_text, GoesOn, IsChain, IsFront, most_lines}
use Rattle.history_text.specs.Spell.{entry_line, spell}
use Rattle.history_text.specs.SpellBase.{base_lines, spell_segment}
use Rattle.crawl_audit.specs.Steps.{MayEnd, Place, Runs, start, Steps}

-- a line is at most one entry
abbrev pub OneEntry : Type 0
OneEntry = (version : Version) (d e : Entry) → IsEntry version d → IsEntry version e
    → entry_line version d ≡ entry_line version e → d ≡ e

-- a text is at most one history, whatever their lengths
abbrev pub OneHistory : Type 0
OneHistory =
    (version : Version) (ds es : List Entry) → All (IsEntry version) ds → All (IsEntry version) es
    → spell version ds ≡ spell version es → ds ≡ es

-- an export is the text of a chain of one
abbrev pub ExportIsChain : Type 0
ExportIsChain =
    (version : Version) (entries : List Entry) → IsExport version entries
    → IsChain (plain_text version entries) [] × (chain_text (plain_text version entries) [] ≡ spell version entries)

-- the text of a segment is a chain of one
abbrev pub SegmentIsChain : Type 0
SegmentIsChain = (s : Sealed) → chain_text (text_of s) [] ≡ spell_segment s

-- a segment continues the history that its base describes
abbrev pub SegmentsGoOn : Type 0
SegmentsGoOn = (h : History) (s : Sealed) → IsText (text_of s) → 0 < s.base.entries → SaysAs (from s.base) h
    → GoesOn h (text_of s)

-- a history has at most one base in order, so a further text has at most one
abbrev pub OneNextBase : Type 0
OneNextBase =
    (h : History) (a b : Base) → IsBase a → IsInOrder a → IsInOrder b → SaysAs (from a) h → SaysAs (from b) h → a ≡ b

-- lines begin with those of at most one base
abbrev pub OneBase : Type 0
OneBase =
    (a b : Base) (after after' : List (List ℕ)) → IsTextBase a → IsTextBase b
    → base_lines a ++ after ≡ base_lines b ++ after' → a ≡ b

-- a chain of not too many lines that names only the schemes read is bad at no line
abbrev pub RightChainIsNeverBad : Type 0
RightChainIsNeverBad =
    (schemes : Schemes) (first : Text) (later : List Text) (line : ℕ) → IsChain first later
    → length (chain_lines first later) ≤ most_lines → All (IsAmong schemes) (chain_lines first later)
    → IsChainBadAt schemes (chain_text first later) line → ⊥

-- a chain's lines name only `http` exactly if its entries and bases do
abbrev pub HttpChainsNameHttp : Type 0
HttpChainsNameHttp =
    (first : Text) (later : List Text) → IsChain first later
    → IsHttpChain first later ↔ All (IsAmong Http) (chain_lines first later)

-- a chain of `http`, not too long, is bad at no line if `http` alone is read
abbrev pub HttpChainIsNeverBad : Type 0
HttpChainIsNeverBad =
    (first : Text) (later : List Text) (line : ℕ) → IsChain first later
    → length (chain_lines first later) ≤ most_lines → IsHttpChain first later
    → IsChainBadAt Http (chain_text first later) line → ⊥

-- a line leads from a place to at most one place
abbrev pub OneStep : Type 0
OneStep =
    (place : Place) (line : List ℕ) (one other : Place) → Steps place line one → Steps place line other → one ≡ other

-- the first lines of valid texts are read line by line
abbrev pub FrontsAreRead : Type 0
FrontsAreRead = (lines : List (List ℕ)) → IsFront lines → (place : Place) × Runs start lines place

-- lines that are read and not too long may begin a valid text
abbrev pub ReadsAreFronts : Type 0
ReadsAreFronts =
    (lines : List (List ℕ)) (place : Place) → Runs start lines place → length lines ≤ most_lines → IsFront lines

-- if a text may end there, the lines are a chain
abbrev pub EndsAreChains : Type 0
EndsAreChains =
    (lines : List (List ℕ)) (place : Place) → Runs start lines place → MayEnd place
    → (first : Text) × ((later : List Text) × (IsChain first later × (chain_lines first later ≡ lines)))
