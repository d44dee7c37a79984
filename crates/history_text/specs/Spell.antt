-- Entries in versions 1 and 2: one line each, of fields separated by spaces.
-- docs/FORMATS.md has both as tables.
use Rattle.std.specs.Prelude.{◌==◌, ℕ, List, [], ◌∷◌, ◌++◌, codes, decimal, flat_map, if◌then◌else◌, length}
use Rattle.std.specs.Str.{bytes_eq}
use Rattle.robots_verdict.specs.declared.answer.Closure.{Closure}
use Rattle.robots_verdict.specs.declared.answer.Closure.TheVariants as closures
use Rattle.robots_verdict.specs.declared.answer.Opening.{Opening}
use Rattle.robots_verdict.specs.declared.answer.Opening.TheVariants as openings
use Rattle.robots_verdict.specs.declared.said.Said.{Said}
use Rattle.robots_verdict.specs.declared.said.Said.TheVariants as says
use Rattle.gate_history.specs.declared.entry.Entry.{Entry}
use Rattle.gate_history.specs.declared.entry.Entry.TheVariants.{Begun, Arrived, Granted, AskDenied, Started, StartDenied, Returned, Finished, Swept}
use Rattle.gate_history.specs.Wording.{cause_words, reason_words}
use Rattle.line_text.specs.Escapes.{escaped_body}
use Rattle.history_text.specs.declared.version.Version.{Version}
use Rattle.history_text.specs.declared.version.Version.TheVariants.{One, Two}

-- LF, which ends each line
abbrev pub line_end : List ℕ
line_end = 10 ∷ []

-- a body as a word: a hyphen means empty, so a lone hyphen is escaped
abbrev pub body_word : List ℕ → List ℕ
body_word text =
    if length text == 0 then codes "-"
    else (if bytes_eq text (codes "-") then codes "%2D"
    else escaped_body text)

-- why an answer is open
abbrev pub opening_word : Opening → List ℕ
opening_word openings.Unavailable = codes "unavailable"
opening_word openings.TooManyRedirects = codes "redirects"

-- why an answer is closed
abbrev pub closure_word : Closure → List ℕ
closure_word closures.Server = codes "server"
closure_word closures.Network = codes "network"
closure_word closures.BadRedirect = codes "redirect"
closure_word closures.Scheme = codes "scheme"
closure_word closures.Coding = codes "coding"
closure_word closures.Other = codes "other"

-- rules, after their lifetime in version 2
abbrev pub rules_fields : Version → List ℕ → ℕ → List (List ℕ)
rules_fields One text life = codes "R" ∷ body_word text ∷ []
rules_fields Two text life = codes "R" ∷ decimal life ∷ body_word text ∷ []

-- what an answer says
abbrev pub answer_fields : Version → Said → ℕ → List (List ℕ)
answer_fields version (says.Rules text) life = rules_fields version text life
answer_fields version (says.Open opening) life = codes "O" ∷ opening_word opening ∷ []
answer_fields version (says.Closed closure) life = codes "C" ∷ closure_word closure ∷ []

-- the letter of an entry
abbrev pub letter_of : Entry → List ℕ
letter_of (Begun _ _ _) = codes "B"
letter_of (Arrived _ _ _ _ _) = codes "A"
letter_of (Granted _ _ _) = codes "G"
letter_of (AskDenied _ _ _) = codes "N"
letter_of (Started _ _ _) = codes "S"
letter_of (StartDenied _ _ _) = codes "D"
letter_of (Returned _) = codes "K"
letter_of (Finished _) = codes "F"
letter_of (Swept _ _) = codes "W"

-- the fields after the letter
abbrev pub entry_fields : Version → Entry → List (List ℕ)
entry_fields version (Begun moment authority turn) = decimal moment ∷ authority ∷ decimal turn ∷ []
entry_fields version (Arrived life moment authority turn says) =
    decimal moment ∷ authority ∷ decimal turn ∷ answer_fields version says life
entry_fields version (Granted moment number fetch) =
    decimal moment ∷ decimal number ∷ fetch.token ∷ fetch.url ∷ []
entry_fields version (AskDenied moment fetch cause) = decimal moment ∷ fetch.token ∷ fetch.url ∷ cause_words cause
entry_fields version (Started moment number reason) = decimal moment ∷ decimal number ∷ reason_words reason
entry_fields version (StartDenied moment number cause) = decimal moment ∷ decimal number ∷ cause_words cause
entry_fields version (Returned number) = decimal number ∷ []
entry_fields version (Finished number) = decimal number ∷ []
entry_fields version (Swept moment count) = decimal moment ∷ decimal count ∷ []

-- a field after a space
abbrev pub spaced_field : List ℕ → List ℕ
spaced_field field = 32 ∷ field

-- the fields, each after a space
abbrev pub spaced_fields : List (List ℕ) → List ℕ
spaced_fields fields = flat_map spaced_field fields

-- an entry's line, without its end
abbrev pub entry_line : Version → Entry → List ℕ
entry_line version e = letter_of e ++ spaced_fields (entry_fields version e)

-- an entry's line, with its end
abbrev pub entry_text : Version → Entry → List ℕ
entry_text version e = entry_line version e ++ line_end

-- the lines of entries in order
abbrev pub entry_lines : Version → List Entry → List ℕ
entry_lines version entries = flat_map (entry_text version) entries

-- the text before the lines of entries
abbrev pub version_line : Version → List ℕ
version_line One = []
version_line Two = codes "V 2" ++ line_end

-- the text of a history
abbrev pub spell : Version → List Entry → List ℕ
spell version entries = version_line version ++ entry_lines version entries
