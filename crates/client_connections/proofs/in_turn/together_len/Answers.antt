use Rattle.std.proofs.Common.{inr, arith}
use Rattle.client_connections.proofs.Turns.{plain-take}
use Rattle.client_connections.proofs.in_turn.together_len.Goals as goal

pub returns-else-is_fetch-clause-turn : goal.returns-else-is_fetch-clause-turn
returns-else-is_fetch-clause-turn c =
    inr (plain-take c.plain_len.result c.min-else-is_fetch.result c.args.octets.now
    (omega (arith, c.min-else-is_fetch.ensures)) (omega (arith, c.min-else-is_fetch.ensures, c.plain_len.ensures.fits))
    c.plain_len.ensures.plain)
