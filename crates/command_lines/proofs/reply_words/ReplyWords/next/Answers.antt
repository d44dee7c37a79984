-- The number of words is even.
use Rattle.command_lines.proofs.ReplyTexts.{second_follows}
use Rattle.command_lines.proofs.reply_words.ReplyWords.next.Goals as goal

pub unwrap-second-requires : goal.unwrap-second-requires
unwrap-second-requires c = second_follows _ _ _ _ _ c.self.invariant c.in-Some.ensures c.next-2.ensures
