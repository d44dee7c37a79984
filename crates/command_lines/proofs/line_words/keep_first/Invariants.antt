-- The words so far are kept, and none is empty.
use Rattle.std.proofs.Common.{◌≡◌, ◌≤◌, ◌++◌, false, length, take}
use Rattle.std.specs.List.{list_any}
use Rattle.line_text.specs.Words.{is_empty_word, words_left}
use Rattle.command_lines.specs.LineWords.{texts_of}
use Rattle.command_lines.proofs.line_words.keep_first.Given as goal

abbrev pub invariant-loop-len : goal.invariant-loop-len
invariant-loop-len l =
    (words_left l.fn.words ≡ texts_of (take l.len l.room) ++ words_left l.words)
    × (list_any is_empty_word (texts_of (take l.len l.room)) ≡ false) × (length l.room ≡ 5) × (l.len ≤ 5)
