-- A slice of octets has octets only.
use Rattle.std.proofs.Common.{◌<◌, arith}
use Rattle.std.proofs.lemmas.List.Elements.{All-from_get_or}
use Rattle.history_text.proofs.entry_pieces.octets.Goals as goal

pub returns-clause-octets : goal.returns-clause-octets
returns-clause-octets c = All-from_get_or (λ octet. octet < 256) c.args.octets.now 0 (λ i within. omega (arith, c.type_inv.octets i))
