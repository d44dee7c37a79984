-- The octets, padded with zeros, make the number.
use Rattle.std.proofs.Common.{arith}
use Rattle.std.proofs.lemmas.List.{get_or_past}
use Rattle.path_pattern.proofs.Spelling.{first_eight}
use Rattle.path_pattern.proofs.texts.short_front.Goals as goal

pub returns : goal.returns
returns c = omega
    (arith, c.from_be_bytes.ensures, c.octet.ensures, c.octet-2.ensures, c.octet-3.ensures, c.octet-4.ensures, c.octet-5.ensures, c.octet-6.ensures, first_eight 0 c.args.text.now, get_or_past c.args.text.now 7 0 (omega (arith, c.requires)))
