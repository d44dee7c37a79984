-- A connection's octets are unknown, so the exchange's result is that of some octets.
use Rattle.http_client.proofs.Ends.{through_tells}
use Rattle.http_client.proofs.tls_exchange.exchange_through.Goals as goal

pub returns-clause-tells : goal.returns-clause-tells
returns-clause-tells g c = through_tells _ _ _ _ _ _ _ _ _ _ _ _ c.exchange_ending-given.ensures.exchanges c.unless_ended.ensures
