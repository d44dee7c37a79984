-- A connection's octets are unknown, so the exchange's result is that of some octets.
use Rattle.http_client.proofs.Ends.{given_tells}
use Rattle.http_client.proofs.exchanged.exchange_straight.Goals as goal

pub returns-clause-tells : goal.returns-clause-tells
returns-clause-tells g c = given_tells _ _ _ _ _ _ _ _ _ _ c.exchange_ending-given.ensures.exchanges
