-- What an audit says of texts in sequence: they are a chain, or a line continues none.
-- See docs/FORMATS.md.
use Rattle.std.specs.Prelude.{◌≡◌, ◌≢◌, ℕ, ◌+◌, ◌≤◌, All, Bool, false, List, [], ◌∷◌, ◌++◌, length}
use Rattle.std.specs.List.{list_any}
use Rattle.path_normal.specs.declared.schemes.Schemes.{Schemes}
use Rattle.path_normal.specs.declared.schemes.Schemes.TheVariants.{Http, HttpAndHttps}
use Rattle.path_normal.specs.PageText.{is_https}
use Rattle.line_text.specs.Words.{words_of}
use Rattle.crawl_audit.specs.declared.fault.Audited.{Audited}
use Rattle.history_text.specs.Texts.{Text}
use Rattle.crawl_audit.specs.Chains.{chain_entries, chain_lines, chain_text, IsChain, IsFront, most_lines, starts_in, line_limit}
use Rattle.history_text.specs.SpellBase.{ended, lines_text}

-- a word begins with `https://`
abbrev pub names_https : List ℕ → Bool
names_https line = list_any is_https (words_of line)

-- the line names only pages and sites of these schemes
abbrev pub IsAmong : Schemes → List ℕ → Type 0
IsAmong Http line = names_https line ≡ false
IsAmong HttpAndHttps line = Unit {0}

-- the text is a chain of these schemes, with not too many lines and these counts of entries
pub record IsChainAudited (schemes : Schemes) (text : List ℕ) (audited : Audited) : Type 0 where
  pub first : Text
  pub later : List Text
  pub chain : IsChain first later
  pub few : length (chain_lines first later) ≤ most_lines
  pub among : All (IsAmong schemes) (chain_lines first later)
  pub text_is : text ≡ chain_text first later
  pub events_are : audited.events ≡ length (chain_entries first later)
  pub starts_are : audited.starts ≡ starts_in (chain_entries first later)

-- a valid text of these schemes may begin with the lines before this one, but none continues with a line that begins
-- here; if nothing follows, the lines are no whole chain
pub record IsChainBadAt (schemes : Schemes) (text : List ℕ) (line : ℕ) : Type 0 where
  pub front : List (List ℕ)
  pub before : IsFront front
  pub among : All (IsAmong schemes) front
  pub behind : List ℕ
  pub text_is : text ≡ lines_text front ++ behind
  pub whole : behind ≡ [] → (first : Text) (later : List Text) → IsChain first later → chain_lines first later ≢ front
  pub line_is : line ≡ length front + 1
  pub bad : (next after : List ℕ) → length next ≤ line_limit → behind ≡ ended next ++ after → IsAmong schemes next
      → IsFront (front ++ next ∷ []) → ⊥
