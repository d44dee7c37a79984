-- Valid chains of segment texts, and their beginnings.
-- See docs/FORMATS.md; `gate_history` defines legality.
use Rattle.std.specs.Prelude.{◌≡◌, ℕ, ◌≤◌, ◌⊎◌, List, [], ◌∷◌, ◌++◌, codes, filter, flat_map, length}
use Rattle.gate_history.specs.declared.entry.Entry.{Entry}
use Rattle.gate_history.specs.History.{History, from, is_start}
use Rattle.gate_history.specs.Seal.{SaysAs}
use Rattle.line_text.specs.Limits.{max_long_line}
use Rattle.history_text.specs.SpellBase.{lines_text}
use Rattle.history_text.specs.Texts.{FollowsBase, IsText, Text, text_history, text_lines}

-- the most octets of a line, without its end
abbrev pub line_limit : ℕ
line_limit = max_long_line

-- the most lines of texts audited together
abbrev pub most_lines : ℕ
most_lines = 100000000

-- a text continues a history: its base says what the history does
pub record GoesOn (h : History) (t : Text) : Type 0 where
  pub text : IsText t
  pub base : FollowsBase t
  pub says : SaysAs (from t.base) h

-- each text continues those before it
abbrev pub AllGoOn : History → List Text → Type 0
AllGoOn h [] = Unit {0}
AllGoOn h (t ∷ later) = GoesOn h t × AllGoOn (text_history t) later

-- a chain: a text valid by itself, and those that continue it
pub record IsChain (first : Text) (later : List Text) : Type 0 where
  pub begins : IsText first
  pub goes_on : AllGoOn (text_history first) later

-- the lines of a chain
abbrev pub chain_lines : Text → List Text → List (List ℕ)
chain_lines first later = text_lines first ++ flat_map text_lines later

abbrev pub chain_entries : Text → List Text → List Entry
chain_entries first later = first.entries ++ flat_map (λ t. t.entries) later

-- the text of a chain
abbrev pub chain_text : Text → List Text → List ℕ
chain_text first later = lines_text (chain_lines first later)

-- how many entries are started fetches
abbrev pub starts_in : List Entry → ℕ
starts_in entries = length (filter is_start entries)

-- lines with which a valid text may begin: a prefix of a chain's lines, or a chain and the head of a further text
pub record IsFront (lines : List (List ℕ)) : Type 0 where
  pub first : Text
  pub later : List Text
  pub chain : IsChain first later
  pub begins : ((rest : List (List ℕ)) × (chain_lines first later ≡ lines ++ rest))
      ⊎ (lines ≡ chain_lines first later ++ codes "V 3" ∷ [])
  pub few : length lines ≤ most_lines
