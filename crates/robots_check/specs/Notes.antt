-- The notes on a robots text: that it was cut, that no line is a record, and rules that match no URL because of an
-- apostrophe.
-- Used by `check` and `tell_notes`; see docs/FORMATS.md.
use Rattle.std.specs.Prelude.{◌≡◌, ◌⊎◌, ◌+◌, ◌==◌, ℕ, Bool, true, false, nat_le, List, [], ◌∷◌, ◌++◌, Option, codes, decimal, flat_map, length, if◌then◌else◌}
use Rattle.std.specs.List.{list_any}
use Rattle.std.specs.Io.KnownBytes.{Appends}
use Rattle.counted_io.specs.Device.{AppendsPrefix, one_more}
use Rattle.counted_io.specs.Reads.{ReadsTo}
use Rattle.robots_text.specs.Lines.{kept, text_limit}
use Rattle.robots_text.specs.Records.{Record, agent, rule, other, Numbered, numbered_records}
use Rattle.robots_check.specs.Checks.{ReadsWhole}
use Rattle.robots_check.specs.Input.{IsSplit}

-- `'`
abbrev pub apostrophe : ℕ
apostrophe = 39

-- `?`
abbrev pub question_mark : ℕ
question_mark = 63

-- the octet is an apostrophe
abbrev pub is_apostrophe : ℕ → Bool
is_apostrophe octet = octet == apostrophe

-- what follows the first question mark
abbrev pub behind_question : List ℕ → List ℕ
behind_question [] = []
behind_question (octet ∷ octets) = if octet == question_mark then octets else behind_question octets

-- an apostrophe follows a question mark, where URLs have `%27` (URL Standard, query state)
abbrev pub has_query_apostrophe : List ℕ → Bool
has_query_apostrophe value = list_any is_apostrophe (behind_question value)

-- the note on a line with such a rule
abbrev pub apostrophe_note : ℕ → List ℕ
apostrophe_note line =
    codes "crawlgate: line " ++ (decimal line ++ codes " matches no URL: a URL has %27 for ' in its query\n")

-- the note on a rule line
abbrev pub rule_note : ℕ → List ℕ → List ℕ
rule_note line value = if has_query_apostrophe value then apostrophe_note line else []

-- the note on the line of this number, if it is a rule
abbrev pub record_note : ℕ → Record → List ℕ
record_note line (agent who) = []
record_note line (rule kind value) = rule_note line value
record_note line other = []

-- the note on a numbered record
abbrev pub line_note : Numbered → List ℕ
line_note item = record_note item.line item.kind

-- the line is a user-agent line or a rule line
abbrev pub is_said : Record → Bool
is_said (agent who) = true
is_said (rule kind value) = true
is_said other = false

-- the note if there are lines, but no record
abbrev pub silent_note : List Numbered → List ℕ
silent_note [] = []
silent_note (first ∷ lines) =
    if is_said first.kind then []
    else if list_any (λ line. is_said line.kind) lines then []
    else codes "crawlgate: no line of the robots.txt is a record, so it allows all\n"

-- the note on a body whose octets are over the limit
abbrev pub cut_note : ℕ → List ℕ
cut_note count =
    if nat_le count text_limit then []
    else codes "crawlgate: of the robots.txt only the lines that end within 512,000 bytes are read\n"

-- all notes on a body of so many octets, with these lines kept
abbrev pub notes_of : ℕ → List Numbered → List ℕ
notes_of count lines = (cut_note count ++ silent_note lines) ++ flat_map line_note lines

-- all notes on a body
abbrev pub notes_text : List ℕ → List ℕ
notes_text body = notes_of (length body) (numbered_records (kept body))

-- the text was written, or a write failed after at most a prefix
abbrev pub IsNoted : List ℕ → (written new : Option (List ℕ)) → (failures after : ℕ) → Type 0
IsNoted text written new failures after =
    ((after ≡ failures) × Appends written new text) ⊎ ((after ≡ one_more failures) × AppendsPrefix written new text)

-- a robots text was read, and its notes were written
pub record NotesText (input left written new : Option (List ℕ)) (failures after : ℕ) : Type 0 where
  pub body : List ℕ
  pub reads : ReadsTo (text_limit + 1) input left body
  pub noted : IsNoted (notes_text body) written new failures after

-- an input was read, and the notes on its robots text were written
pub record NotesFront (input left written new : Option (List ℕ)) (failures after : ℕ) : Type 0 where
  pub whole : List ℕ
  pub reads : ReadsWhole input left whole
  pub front : List ℕ
  pub lines : List ℕ
  pub split : IsSplit whole front lines
  pub noted : IsNoted (notes_text front) written new failures after
