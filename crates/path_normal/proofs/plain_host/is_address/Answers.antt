-- Four octets are an address.
use Rattle.path_normal.proofs.PlainHosts.{address_host}
use Rattle.path_normal.proofs.plain_host.is_address.Goals as goal

pub returns-in-Some : goal.returns-in-Some
returns-in-Some c _ = address_host _ _ _ _ _ (c.in-Some.ensures {u = tt})
