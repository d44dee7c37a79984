-- The text is cut at its first slash.
use Rattle.std.proofs.Common.{arith, rules, Some}
use Rattle.std.proofs.lemmas.Str.Pattern.{split_once_first}
use Rattle.http_client.proofs.BlockTexts.{block_text, no_number, parsed}
use Rattle.http_client.proofs.address_block.AddressBlock.parse.Goals as goal

pub returns-in_err-number_in : goal.returns-in_err-number_in
returns-in_err-number_in c =
    let cut = split_once_first 47 c.args.text.now (Some (c.in_ok-address.address, c.in_ok-address.digits)) c.in_ok-address.ensures.cases (omega arith) in
    let none = no_number c.args.text.now c.in_ok-address.digits.now cut.2 c.in_err-number_in.ensures in
    search (rules, none)

pub returns : goal.returns
returns c =
    let cut = split_once_first 47 c.args.text.now (Some (c.in_ok-address.address, c.in_ok-address.digits)) c.in_ok-address.ensures.cases (omega arith) in
    block_text c.args.text.now c.in_ok-address.address.now c.in_ok-address.digits.now c.in_ok-address-2.address c.in_ok-number_in.field-0 c.of.result
    cut.0 cut.1 cut.2 (parsed _ c.parse.result c.in_ok-address-2.address c.in_ok-address-2.ensures.value c.parse.ensures.value) c.in_ok-number_in.ensures c.of.ensures
