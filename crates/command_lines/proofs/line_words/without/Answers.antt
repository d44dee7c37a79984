-- A round takes a word, if any is left.
use Rattle.line_text.specs.Words.{words_left}
use Rattle.command_lines.proofs.KeptWords.{one_more_gone}
use Rattle.command_lines.proofs.line_words.without.Goals as goal

pub loop-preserved : goal.loop-preserved
loop-preserved c =
    one_more_gone (words_left c.args.words) (words_left c.loop.left) c.loop.counter c.next.result (words_left c.next.new.self) c.loop.invariant c.next.ensures
