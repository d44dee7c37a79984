-- A text: its lines, and when it is right on its own, after nothing or a base.
-- docs/FORMATS.md has the lines; legality is that of `gate_history`.
use Rattle.std.specs.Prelude.{◌≡◌, ℕ, ◌<◌, ◌≤◌, ◌==◌, ◌⊎◌, All, List, [], ◌∷◌, ◌++◌, codes, if◌then◌else◌, length, map}
use Rattle.gate_history.specs.declared.entry.Entry.{Entry}
use Rattle.gate_history.specs.Base.{Base, IsBase, empty_base}
use Rattle.gate_history.specs.Grants.{IsSlotGrant}
use Rattle.gate_history.specs.History.{History, entry_count, followed_by, from}
use Rattle.gate_history.specs.Legal.{AllRise, IsLegal}
use Rattle.gate_history.specs.Order.{IsInOrder}
use Rattle.gate_core.specs.Limits.{greatest_number, most_entries}
use Rattle.history_text.specs.declared.version.Version.{Version}
use Rattle.history_text.specs.declared.version.Version.TheVariants.{One, Two}
use Rattle.history_text.specs.BaseFields.{HasBaseFields}
use Rattle.history_text.specs.Entries.{IsEntry}
use Rattle.history_text.specs.Spell.{entry_line}
use Rattle.history_text.specs.SpellBase.{base_lines}

-- the entries' spelling, what they follow, and the entries
pub record Text : Type 0 where
  pub version : Version
  pub base : Base
  pub entries : List Entry

-- its history
abbrev pub text_history : Text → History
text_history t = followed_by (from t.base) t.entries

-- a version's lines before the entries
abbrev pub version_lines : Version → List (List ℕ)
version_lines One = []
version_lines Two = codes "V 2" ∷ []

-- the lines before the entries: version 3 if something was sealed before
abbrev pub head_lines : Text → List (List ℕ)
head_lines t = if t.base.entries == 0 then version_lines t.version else base_lines t.base

-- its lines
abbrev pub text_lines : Text → List (List ℕ)
text_lines t = head_lines t ++ map (entry_line t.version) t.entries

-- a text's base: of some entries, in order
pub record IsTextBase (b : Base) : Type 0 where
  pub fields : HasBaseFields b
  pub slots : All IsSlotGrant b.grants
  pub base : IsBase b
  pub order : IsInOrder b
  pub some : 0 < b.entries

-- the entries follow such a base, in version 2, and each grant has a generation above all earlier ones of its slot
pub record FollowsBase (t : Text) : Type 0 where
  pub base : IsTextBase t.base
  pub version : t.version ≡ Two
  pub rises : AllRise (from t.base) t.entries

-- right on its own: the entries follow nothing or a base, can be spelled, and are legal
pub record IsText (t : Text) : Type 0 where
  pub follows : (t.base ≡ empty_base) ⊎ FollowsBase t
  pub spelled : All (IsEntry t.version) t.entries
  pub legal : IsLegal (text_history t)
  pub within : length t.entries ≤ most_entries
  pub counted : entry_count (text_history t) ≤ greatest_number
