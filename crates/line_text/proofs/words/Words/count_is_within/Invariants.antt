-- The counted words, and those that are left.
use Rattle.std.proofs.Common.{◌≡◌, ◌+◌, length}
use Rattle.line_text.specs.Words.{words_left}
use Rattle.line_text.proofs.words.Words.count_is_within.Given as goal

abbrev pub invariant-loop-count : goal.invariant-loop-count
invariant-loop-count l = l.count + length (words_left l.words) ≡ length (words_left l.fn.self)
