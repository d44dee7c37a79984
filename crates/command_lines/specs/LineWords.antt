-- The words of a command line, and their number: checks 3 and 4 of docs/FORMATS.md.
-- Cited by `line_words`.
use Rattle.std.specs.Prelude.{ℕ, List, Result, Ok, Err, if◌then◌else◌, map}
use Rattle.std.specs.Borrow.{Bor}
use Rattle.std.specs.List.{list_any}
use Rattle.command_lines.specs.CallOf.{has_line_octets}
use Rattle.command_lines.specs.declared.fault.LineFault.{LineFault}
use Rattle.command_lines.specs.declared.fault.LineFault.TheVariants as faults
use Rattle.line_text.specs.Words.{is_empty_word, words_of}

-- borrowed words as their texts
abbrev pub texts_of : List (Bor (List ℕ)) → List (List ℕ)
texts_of words = map (λ word. word.now) words

-- what the words make, none of them empty
abbrev pub if_full : {T : Type 0} → (List (List ℕ) → T) → List (List ℕ) → Result T LineFault
if_full made words = if list_any is_empty_word words then Err faults.Words else Ok (made words)

-- what a line's words make, or its first fault
abbrev pub made_of_words : {T : Type 0} → (List (List ℕ) → T) → List ℕ → Result T LineFault
made_of_words made line = if has_line_octets line then if_full made (words_of line) else Err faults.Chars

-- the words of a line, or its first fault
abbrev pub line_words_of : List ℕ → Result (List (List ℕ)) LineFault
line_words_of line = made_of_words (λ words. words) line
