-- The octets make the number.
use Rattle.std.proofs.Common.{arith}
use Rattle.path_pattern.proofs.Spelling.{first_eight}
use Rattle.path_pattern.proofs.texts.front.Goals as goal

pub returns : goal.returns
returns c = omega (arith, c.from_be_bytes.ensures, first_eight 0 c.args.text.now)
