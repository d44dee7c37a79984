-- What a parser makes of a line's words: it reads back what was written, unless memory was refused. Little is said of
-- other words, since what was read is written again and compared. Used by the readers of lines.
use Rattle.std.specs.Prelude.{◌≡◌, ℕ, List, [], ◌∷◌, Option, Some, None, Result, Ok, Err}
use Rattle.robots_verdict.specs.declared.answer.Answer.{Answer}
use Rattle.robots_verdict.specs.declared.said.Said.{Said}
use Rattle.robots_verdict.specs.Answer.{said}
use Rattle.gate_history.specs.declared.entry.Entry.{Entry}
use Rattle.line_text.specs.Words.{words_of}
use Rattle.history_text.specs.declared.version.Version.{Version}
use Rattle.crawl_audit.specs.declared.base_row.BaseRow.{BaseRow}
use Rattle.crawl_audit.specs.declared.unread_line.UnreadLine.{UnreadLine}
use Rattle.crawl_audit.specs.declared.unread_line.UnreadLine.TheVariants.{NotOne, NoMemory}
use Rattle.crawl_audit.specs.declared.record.Record.{Record}
use Rattle.history_text.specs.Entries.{IsEntry, IsLife, IsSaid}
use Rattle.crawl_audit.specs.OpenRows.{IsOpenRow, OpenRow, row_line, row_of}
use Rattle.crawl_audit.specs.Records.{entry_of}
use Rattle.history_text.specs.Spell.{answer_fields, entry_line}

-- the first word, or the empty one
abbrev pub head_word : List (List ℕ) → List ℕ
head_word [] = []
head_word (word ∷ words) = word

-- the words after the first
abbrev pub tail_words : List (List ℕ) → List (List ℕ)
tail_words [] = []
tail_words (word ∷ words) = words

-- the named value, or that there is none, or memory was refused
abbrev pub Reads : {A : Type 0} → Result A UnreadLine → Option A → Type 0
Reads (Ok value) named = named ≡ Some value
Reads (Err NotOne) named = named ≡ None
Reads (Err NoMemory) named = Unit {0}

-- a proper value was read, unless memory was refused
abbrev pub IsRead : {A : Type 0} → Result A UnreadLine → (A → Type 0) → Type 0
IsRead (Ok value) is_right = is_right value
IsRead (Err NotOne) is_right = ⊥
IsRead (Err NoMemory) is_right = Unit {0}

-- an entry's words are read as that entry
abbrev pub ReadsEntry : Version → List (List ℕ) → Result Record UnreadLine → Type 0
ReadsEntry version words result =
    (e : Entry) → IsEntry version e → words ≡ words_of (entry_line version e)
    → IsRead result (λ found. entry_of found ≡ e)

-- an answer's words and its life are read as that answer
abbrev pub ReadsAnswer : Version → List (List ℕ) → Result (Answer × ℕ) UnreadLine → Type 0
ReadsAnswer version words result =
    (says : Said) (life : ℕ) → IsSaid says → IsLife version says life → words ≡ answer_fields version says life
    → IsRead result (λ pair. (said pair.0 ≡ says) × (pair.1 ≡ life))

-- a row's words are read as that row
abbrev pub ReadsRow : List (List ℕ) → Result BaseRow UnreadLine → Type 0
ReadsRow words result =
    (r : OpenRow) → IsOpenRow r → words ≡ words_of (row_line r) → IsRead result (λ found. row_of found ≡ r)
