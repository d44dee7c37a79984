-- The histories and segments that texts can have: legal ones, within the limit.
-- RFC 9309, sections 2.2.2, 2.3.1 and 2.4, by the legality of `gate_history`.
use Rattle.std.specs.Prelude.{◌≡◌, ◌<◌, ◌≤◌, ◌⊎◌, All, List, length}
use Rattle.gate_history.specs.declared.entry.Entry.{Entry}
use Rattle.gate_history.specs.Base.{empty_base}
use Rattle.gate_history.specs.History.{History, entry_count, followed_by, from}
use Rattle.gate_history.specs.Legal.{IsLegal}
use Rattle.gate_history.specs.Segment.{history_in, Sealed}
use Rattle.gate_core.specs.Gate.{Gate}
use Rattle.gate_core.specs.Limits.{greatest_number, most_entries}
use Rattle.history_text.specs.declared.version.Version.{Version}
use Rattle.history_text.specs.declared.version.Version.TheVariants.{Two}
use Rattle.history_text.specs.BaseFields.{HasBaseFields}
use Rattle.history_text.specs.Texts.{IsText, Text}
use Rattle.history_text.specs.Entries.{IsEntry}

-- a history that begins with nothing
abbrev pub history_of : List Entry → History
history_of entries = followed_by (from empty_base) entries

-- a legal history that the version can spell
pub record IsExport (version : Version) (entries : List Entry) : Type 0 where
  pub spelled : All (IsEntry version) entries
  pub legal : IsLegal (history_of entries)
  pub within : length entries ≤ most_entries

-- a book's segment not yet sealed
abbrev pub present_segment : Gate → Sealed
present_segment g = record { base = g.base; entries = g.entries }

-- the text of a segment
abbrev pub text_of : Sealed → Text
text_of s = record { version = Two; base = s.base; entries = s.entries }

-- a text that begins with nothing
abbrev pub plain_text : Version → List Entry → Text
plain_text version entries = record { version = version; base = empty_base; entries = entries }

-- within a text's limit, after nothing or some entries
pub record CanBeText (s : Sealed) : Type 0 where
  pub begins : (s.base ≡ empty_base) ⊎ (0 < s.base.entries)
  pub within : length s.entries ≤ most_entries
  pub counted : entry_count (history_in s) ≤ greatest_number

-- a legal history with the fields of a text of version 2 or 3, and a right text if within the limit
pub record IsSegmentText (s : Sealed) : Type 0 where
  pub legal : IsLegal (history_in s)
  pub entries : All (IsEntry Two) s.entries
  pub base : 0 < s.base.entries → HasBaseFields s.base
  pub text : CanBeText s → IsText (text_of s)
