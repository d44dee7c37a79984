-- The first fault is that of the remaining replies.
use Rattle.std.proofs.Common.{◌≡◌, length}
use Rattle.command_lines.specs.Arrival.{replies_fault}
use Rattle.line_text.specs.Words.{words_left}
use Rattle.command_lines.proofs.reply_words.replies_fault.Given as goal

abbrev pub invariant-loop-first : goal.invariant-loop-first
invariant-loop-first l = replies_fault (words_left l.left) ≡ replies_fault (words_left l.fn.words)

abbrev pub decreases-loop-first : goal.decreases-loop-first
decreases-loop-first l = length (words_left l.left)
