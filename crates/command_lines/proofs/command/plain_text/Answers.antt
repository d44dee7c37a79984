-- A plain line is ASCII, hence UTF-8.
use Rattle.std.proofs.Common.{◌∙◌, sym}
use Rattle.command_lines.proofs.PlainText.{text_of_plain}
use Rattle.command_lines.proofs.command.plain_text.Goals as goal

pub returns : goal.returns
returns c =
    let plain = sym c.has_line_octets.ensures ∙ c.if-not-has_line_octets.false in
    rw c.ok.ensures.value (text_of_plain _ c.args.line.now c.from_utf8.result plain c.from_utf8.ensures.cases)
