-- What `parse` gives for a numeral.
use Rattle.std.proofs.Common.{◌∙◌, ap, sym}
use Rattle.line_text.specs.Number.{is_numeral}
use Rattle.line_text.proofs.Numerals.{number_parsed}
use Rattle.line_text.proofs.numbers.number_of.Goals as goal

pub returns : goal.returns
returns c =
    let numeral = ap is_numeral (sym c.as_bytes.ensures.value) ∙ sym c.is_numeral.ensures ∙ c.if-not-is_numeral.false in
    c.ok.ensures.value ∙ number_parsed c.args.word.now c.parse.result numeral c.parse.ensures.value.0
