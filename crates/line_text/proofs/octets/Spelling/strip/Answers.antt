-- If an octet is not found, the text does not begin with the octets.
use Rattle.line_text.specs.Escapes.{spelled_octet}
use Rattle.line_text.proofs.Stripping.{row_lacks}
use Rattle.line_text.proofs.octets.Spelling.strip.Goals as goal

pub returns-in-None : goal.returns-in-None
returns-in-None c =
    row_lacks (spelled_octet c.args.self) c.args.octets.now c.loop-octet.octet-index _ c.args.text.now c.loop-octet.rest.now c.loop-octet-test.true c.loop-octet.invariant c.in-None.ensures
