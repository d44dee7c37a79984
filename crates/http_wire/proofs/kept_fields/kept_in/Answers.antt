-- What the parser takes for no head is none, so it keeps nothing.
use Rattle.std.proofs.Common.{ap}
use Rattle.http_wire.specs.Kept.{kept_pairs}
use Rattle.http_wire.proofs.KeptHeads.{keeps_none, not_a_head}
use Rattle.http_wire.proofs.kept_fields.kept_in.Goals as goal

pub returns-in-Open : goal.returns-in-Open
returns-in-Open c =
    keeps_none c.args.octets.now (kept_pairs c.new-in-Open.result.items)
    (not_a_head c.args.octets.now c.parse.new.headers c.parse.result c.parse.ensures.parses c.in-Open.is)
    (ap kept_pairs c.new-in-Open.ensures.items)
