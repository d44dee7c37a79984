-- The octets are the text, or are none.
use Rattle.std.proofs.Common.{sym, ap, ◌∙◌, Some}
use Rattle.http_front.proofs.Texts.{is_no_text, is_text}
use Rattle.http_front.proofs.fields.text_of.Goals as goal

pub returns-in-Ok : goal.returns-in-Ok
returns-in-Ok c =
    let cases = c.in-Ok.ensures.cases in ap Some cases.0 ∙ sym (is_text c.args.octets.now cases.1)

pub returns-in-Err : goal.returns-in-Err
returns-in-Err c = sym (is_no_text c.args.octets.now c.in-Err.ensures.cases.0)
