-- A line of plain octets is UTF-8.
use Rattle.std.proofs.Common.{sym, ◌∙◌}
use Rattle.command_lines.proofs.PlainText.{utf8_of_plain}
use Rattle.command_lines.proofs.line_words.LineWords.of.Goals as goal

pub from_utf8_unchecked-text-requires : goal.from_utf8_unchecked-text-requires
from_utf8_unchecked-text-requires c =
    utf8_of_plain c.args.line.now (sym c.has_line_octets.ensures ∙ c.if-not-has_line_octets.false)
