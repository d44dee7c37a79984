-- As many words are gone as rounds.
use Rattle.std.proofs.Common.{◌≡◌, drop}
use Rattle.line_text.specs.Words.{words_left}
use Rattle.command_lines.proofs.line_words.without.Given as goal

abbrev pub invariant-loop : goal.invariant-loop
invariant-loop l = words_left l.left ≡ drop l.counter (words_left l.fn.words)
