-- What contracts see of a client and of its network.
-- `TcpClient` and `Network` cite it.
use Rattle.std.specs.Prelude.{List, [], Option, None, Some, Vec}
use Rattle.std.specs.declared.alloc.Global.{Global}
use Rattle.std.specs.declared.net.socket_addr.SocketAddr.{SocketAddr}
use Rattle.http_client.specs.declared.address_block.AddressBlock.{AddressBlock}
use Rattle.http_client.specs.declared.reach.Reach.{Reach}
use Rattle.http_client.specs.declared.time_limits.TimeLimits.{TimeLimits}

-- its time limits, its reach, the blocks that it doesn't connect to, and the program that opens TLS, if any
pub record ClientView : Type 0 where
  pub limits : TimeLimits
  pub reach : Reach
  pub not_to : List AddressBlock
  pub tls_by : Option SocketAddr

-- what of a network may be reached, the blocks that are ruled out, and the program that opens TLS, if any
pub record NetworkView : Type 0 where
  pub reach : Reach
  pub not_to : List AddressBlock
  pub tls_by : Option SocketAddr

-- the blocks of a list, if there is one
abbrev pub blocks_of : Option (Vec AddressBlock Global) → List AddressBlock
blocks_of None = []
blocks_of (Some blocks) = blocks.items
