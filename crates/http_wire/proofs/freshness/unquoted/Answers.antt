-- The text between the quotation marks.
use Rattle.http_wire.proofs.MaxAges.{found_quoted}
use Rattle.http_wire.proofs.freshness.unquoted.Goals as goal

pub returns : goal.returns
returns c =
    found_quoted c.args.argument.now c.in-Some.opened.now c.strip_suffix.result c.in-Some.ensures.cases.0 c.in-Some.ensures.cases.1
    c.strip_suffix.ensures.cases
